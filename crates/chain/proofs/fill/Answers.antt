use Rattle.std.proofs.Common.{[], ◌∷◌, ◌++◌, sym, ap, ◌∙◌, add-one, rules}
use Rattle.chain.specs.declared.Row.TheVariants.{Free}
use Rattle.chain.specs.Rows.{free_rows}
use Rattle.chain.proofs.fill.Goals as goal

pub loop-place-preserved : goal.loop-place-preserved
loop-place-preserved g c = (
  c.push_reserved.ensures.items ∙ (ap (λ xs. xs ++ (Free c.row_before.result ∷ [])) c.loop-place.invariant.0
      ∙ (ap (λ o. free_rows c.loop-place.place ++ (Free o ∷ [])) c.row_before.ensures ∙ ap free_rows (sym (add-one c.loop-place.place)))),
  search rules,
  search rules,
)
