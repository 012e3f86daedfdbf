-- Where each of a record's links stands in it.
use Rattle.std.specs.Prelude.{ℕ, ◌+◌, List}
use Rattle.ledger.specs.Pages.{calc_at, link_at}
use Rattle.table.specs.declared.sizes.Link.{Link}
use Rattle.table.specs.declared.sizes.Link.TheVariants.{Next, Prior, CalcNext}

abbrev pub link_offset : List ℕ → ℕ → Link → ℕ
link_offset t kind (Next j) = link_at t kind j
link_offset t kind (Prior j) = link_at t kind j + 3
link_offset t kind CalcNext = calc_at t kind
