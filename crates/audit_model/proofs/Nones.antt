-- What a search's result says of the number that its definition gives, for the functions that hand it on.
use Rattle.ledger.proofs.Lists.Nones.{zero_of_none, value_of_some, some_not_zero, none_is}

pub ruleset found_or_none = (zero_of_none, value_of_some, some_not_zero, none_is)
