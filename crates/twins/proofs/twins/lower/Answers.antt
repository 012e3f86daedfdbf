use Rattle.twins.proofs.Laws.Twins.{lower_of}
use Rattle.std.proofs.Common.{rules}
use Rattle.twins.proofs.twins.lower.Goals as goal

pub returns : goal.returns
returns c n e = search (lower_of c.args.lowest n c.args.code e, rules)
