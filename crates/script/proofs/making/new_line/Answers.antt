use Rattle.script.specs.Running.{script_view}
use Rattle.script.proofs.Fresh.{script_fresh}
use Rattle.script.proofs.making.new_line.Goals as goal

pub returns : goal.returns
returns g c = (
  script_fresh c.in_ok-store0.store0 c.in_ok-store1.store1 c.in_ok-store2.store2 c.in_ok-store3.store3 c.all-spreads.result
      (script_view c.new-5.result) c.new-5.ensures.value c.all-spreads.ensures
      c.in_ok-store0.ensures.2.1 c.in_ok-store1.ensures.2.1 c.in_ok-store2.ensures.2.1 c.in_ok-store3.ensures.2.1,
  c.new-5.ensures.runs,
)
