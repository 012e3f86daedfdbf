-- A frame's call in the ledger's words; `room` is the length of READ's output.
use Rattle.std.specs.Prelude.{ℕ}
use Rattle.ledger.specs.Calls.{Call, FORMAT, STORE, DIRECT, KEY, NEXT, PRIOR, MASTER, EACH, MODIFY, DELETE, READ, CURRENT, FIND, RELINK, UNKNOWN}
use Rattle.frames.specs.declared.call.Call as frame
use Rattle.frames.specs.declared.call.Call.TheVariants.{Format, Store, Direct, Key, Next, Prior, Master, Each, Modify, Delete, Read, Current, Find, Relink, Unknown}

abbrev pub call_with : frame.Call → ℕ → Call
call_with Format room = FORMAT
call_with (Store n d) room = STORE n d.now
call_with (Direct x) room = DIRECT x
call_with (Key n k) room = KEY n k.now
call_with (Next j) room = NEXT j
call_with (Prior j) room = PRIOR j
call_with (Master j) room = MASTER j
call_with (Each x y) room = EACH x y
call_with (Modify d) room = MODIFY d.now
call_with Delete room = DELETE
call_with Read room = READ room
call_with (Current n) room = CURRENT n
call_with (Find j k) room = FIND j k.now
call_with (Relink j m) room = RELINK j m
call_with Unknown room = UNKNOWN
