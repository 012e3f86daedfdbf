-- A type's class by the word of its row: 0 primary, 1 secondary, 2 calculated.
use Rattle.std.specs.Prelude.{ℕ, cond, eqb}
use Rattle.puts.specs.declared.placing.Class.{Class}
use Rattle.puts.specs.declared.placing.Class.TheVariants.{Primary, Secondary, Calculated}

abbrev pub class_named : ℕ → Class
class_named w = cond (eqb w 2) Calculated (cond (eqb w 1) Secondary Primary)
