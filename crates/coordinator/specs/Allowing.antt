-- The stages at which a call is allowed.
use Rattle.std.specs.Prelude.{Bool, true, false}
use Rattle.protocol.specs.declared.answers.Stage.{Stage}
use Rattle.protocol.specs.declared.answers.Stage.TheVariants.{Open, Polling, Decided}
use Rattle.coordinator.specs.declared.kinds.Allowed.{Allowed}
use Rattle.coordinator.specs.declared.kinds.Allowed.TheVariants.{OnlyOpen, Undecided, Submitted, AnyStage}

abbrev pub allows : Allowed → Stage → Bool
allows OnlyOpen Open = true
allows OnlyOpen Polling = false
allows OnlyOpen (Decided k) = false
allows Undecided Open = true
allows Undecided Polling = true
allows Undecided (Decided k) = false
allows Submitted Open = false
allows Submitted Polling = true
allows Submitted (Decided k) = true
allows AnyStage t = true
