use Rattle.std.proofs.Common.{◌≡◌, Some}
use Rattle.script.specs.Sessions.{session_view, kind_after, Begins}
use Rattle.script.proofs.Made.{kept}
use Rattle.script.proofs.session.Session.choose.Goals as goal

pub returns : goal.returns
returns c =
    let made = kept _ (λ s. (session_view s ≡ kind_after (Some c.in-Some.kind)) × Begins (session_view s)) c.start.result c.map_err.result c.in_ok-self.field-0
    c.map_err.ensures.cases c.map_err.ensures.variant (c.in_ok-self.was) c.start.ensures in
    record { kind = Some c.in-Some.kind; reads = c.in-Some.ensures; prints = c.answer_bytes.ensures; next = made.0; begins = made.1 }
