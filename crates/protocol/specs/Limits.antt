-- The bounds of the protocol.
use Rattle.std.specs.Prelude.{ℕ}

-- times are ticks from 0 to this one
abbrev pub last_tick : ℕ
last_tick = 1000000000000

-- a spread above it counts as it
abbrev pub widest_spread : ℕ
widest_spread = 3600000

-- transactions live at once
abbrev pub live_limit : ℕ
live_limit = 16

-- transactions opened in all
abbrev pub opened_limit : ℕ
opened_limit = 1000000

-- messages in the post
abbrev pub post_limit : ℕ
post_limit = 64

-- items of a store
abbrev pub item_limit : ℕ
item_limit = 64

-- rows of a store
abbrev pub row_limit : ℕ
row_limit = 4096
