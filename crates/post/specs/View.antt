-- What waits in the post, and whether there is room.
use Rattle.std.specs.Prelude.{ℕ, ◌+◌, ◌-◌, Bool, cond, List, length, Ok, Err, Result, nat_le}
use Rattle.protocol.specs.declared.messages.Message.{Message}
use Rattle.protocol.specs.Limits.{post_limit}
use Rattle.table.specs.Contents.{listed}
use Rattle.post.specs.declared.parts.NoRoom.{NoRoom}
use Rattle.post.specs.declared.parts.Post.{Post}

abbrev pub waiting : Post → List Message
waiting p = listed p.messages

abbrev pub fits_in : List Message → ℕ → Bool
fits_in ms n = nat_le (length ms + n) post_limit

-- how many places are missing for so many more
abbrev pub missing_for : List Message → ℕ → ℕ
missing_for ms n = length ms + n - post_limit

abbrev pub room_for : List Message → ℕ → Result Unit NoRoom
room_for ms n = cond (fits_in ms n) (Ok tt) (Err (record { missing = missing_for ms n }))

abbrev pub sent_if : Bool → ℕ → ℕ → Result ℕ NoRoom
sent_if b n m = cond b (Ok n) (Err (record { missing = m }))
