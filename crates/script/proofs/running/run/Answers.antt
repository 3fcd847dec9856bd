use Rattle.script.proofs.Utf8.{utf8_run}
use Rattle.script.proofs.running.run.Goals as goal

pub unwrap-requires : goal.unwrap-requires
unwrap-requires c = c.from_utf8.ensures.succeeds (utf8_run _ _ c.in_ok-bytes.ensures.long c.in_ok-bytes.ensures.lines)
