use Rattle.std.proofs.Common.{[], ◌++◌, refl, sym, subst, ◌∙◌, ap, arith, append-nil}
use Rattle.script.specs.Sessions.{session_view}
use Rattle.script.specs.Scripts.{PrintedFor}
use Rattle.script.proofs.Lines.{shorter, onward}
use Rattle.script.proofs.running.run_lines.Goals as goal

pub loop-text-preserved : goal.loop-text-preserved
loop-text-preserved c =
    let k = c.loop-text.invariant in
    let printed = c.loop-text.printed.items in
    let e = c.in_ok-extend_from_slice.ensures.items ∙ ap (λ b. printed ++ b) c.deref.ensures.0 in (
      omega (arith, k.0, shorter c.loop-text.rest.now c.in-Some.text.now c.in-Some.after.now c.in-Some.ensures),
      λ ls bytes a b. subst (λ z. PrintedFor c.args.script.now (z ++ bytes)) (sym e)
          (onward c.args.script.now printed c.loop-text.rest.now c.in-Some.text.now c.in-Some.after.now c.in_ok-reply.reply.items
          (session_view c.loop-text.session) (session_view c.answer_bytes.new.self) c.loop-text.number c.in-Some.ensures c.in_ok-reply.ensures k.1 ls bytes a b),
    )

pub returns : goal.returns
returns c = subst (λ z. PrintedFor c.args.script.now z) (append-nil c.loop-text.printed.items) (c.loop-text.invariant.1 [] [] c.in_default.ensures refl)
