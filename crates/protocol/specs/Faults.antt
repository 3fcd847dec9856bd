-- Each refusal's number, layer and detail.
use Rattle.std.specs.Prelude.{ℕ, Result, ok_or}
use Rattle.protocol.specs.declared.sites.Site.{Site}
use Rattle.protocol.specs.declared.faults.Layer.{Layer}
use Rattle.protocol.specs.declared.faults.Layer.TheVariants.{Line, Cell, Store}
use Rattle.protocol.specs.declared.faults.CellFault.TheVariants.{NotActive, NoItem, Held, NoRow}
use Rattle.protocol.specs.declared.faults.Fault.{Fault}
use Rattle.protocol.specs.declared.faults.Fault.TheVariants.{NotLive, NoCell, WrongStage, NoneJoined, AtCell, NoRoom, TooManyLive, NumbersUsed, NoMessage, TooLate}
use Rattle.protocol.specs.Limits.{live_limit, opened_limit}
use Rattle.protocol.specs.Sites.{number_at, site_of}

-- the cell with the number, or the refusal where there is none
abbrev pub site_at : ℕ → Result Site Fault
site_at n = ok_or (site_of n) (NoCell n)

abbrev pub number_of : Fault → ℕ
number_of (NotLive x) = 1
number_of (NoCell c) = 2
number_of (WrongStage x) = 3
number_of (NoneJoined x) = 4
number_of (AtCell s NotActive) = 5
number_of (AtCell s (NoItem i)) = 6
number_of (AtCell s (Held y)) = 7
number_of (AtCell s (NoRow i)) = 8
number_of (NoRoom n) = 9
number_of TooManyLive = 10
number_of NumbersUsed = 11
number_of (NoMessage k) = 12
number_of (TooLate t) = 13

abbrev pub layer_of : Fault → Layer
layer_of (NotLive x) = Line
layer_of (NoCell c) = Line
layer_of (WrongStage x) = Line
layer_of (NoneJoined x) = Line
layer_of (AtCell s NotActive) = Cell
layer_of (AtCell s (NoItem i)) = Cell
layer_of (AtCell s (Held y)) = Cell
layer_of (AtCell s (NoRow i)) = Store
layer_of (NoRoom n) = Line
layer_of TooManyLive = Line
layer_of NumbersUsed = Line
layer_of (NoMessage k) = Line
layer_of (TooLate t) = Line

abbrev pub detail_of : Fault → ℕ
detail_of (NotLive x) = x
detail_of (NoCell c) = c
detail_of (WrongStage x) = x
detail_of (NoneJoined x) = x
detail_of (AtCell s NotActive) = number_at s
detail_of (AtCell s (NoItem i)) = i
detail_of (AtCell s (Held y)) = y
detail_of (AtCell s (NoRow i)) = i
detail_of (NoRoom n) = n
detail_of TooManyLive = live_limit
detail_of NumbersUsed = opened_limit
detail_of (NoMessage k) = k
detail_of (TooLate t) = t
