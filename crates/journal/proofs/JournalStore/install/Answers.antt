use Rattle.std.proofs.Common.{sym, refl, ap, ◌∙◌, arith}
use mathlib.Core.Path.{fun_ext}
use Rattle.std.specs.Result.{result_ok}
use Rattle.store.specs.Meaning.{with, later, grown}
use Rattle.store.proofs.Answering.{install_ok, install_late}
use Rattle.journal.specs.declared.Row.TheVariants.{Installed}
use Rattle.journal.specs.Rows.{versions_of, staged_of}
use Rattle.journal.proofs.Order.{found_at, staged_at_lem, is_staged_lem}
use Rattle.journal.proofs.Writes.{set_staged, set_sound, installed_versions, installed_rises}
use Rattle.journal.proofs.JournalStore.install.Goals as goal

pub returns-then-not-is_later : goal.returns-then-not-is_later
returns-then-not-is_later g c =
    let rows = c.args.self.now.rows.items in
    let at = found_at rows c.args.item c.find_staged.result c.in_ok-held.held (c.ok_or.ensures.ok_part ∙ ap result_ok c.in_ok-held.was) c.find_staged.ensures in
    let n = c.newest_of.ensures in
    record {
      value = install_late g.row.N (versions_of rows) (staged_of rows) c.args.item c.args.time (omega arith)
          (is_staged_lem g.row.N rows c.in_ok-held.held.place c.args.item c.in_ok-held.held.payload c.args.self.now.ordered at)
          (ap (λ o. later o c.args.time) (sym n) ∙ sym c.if-not-is_later.ensures);
      stagings = refl;
      versions = refl;
      capacity = refl;
    }

pub invariant_of-self : goal.invariant_of-self
invariant_of-self g c =
    let s = c.args.self.now in
    let rows = c.args.self.now.rows.items in
    let at = found_at rows c.args.item c.find_staged.result c.in_ok-held.held (c.ok_or.ensures.ok_part ∙ ap result_ok c.in_ok-held.was) c.find_staged.ensures in
    let n = c.newest_of.ensures in record {
      wide = s.wide;
      room = s.room;
      ordered = set_sound g.row.N rows c.in_ok-held.held.place c.args.item c.in_ok-held.held.payload (Installed c.args.item (record { time = c.args.time; payload = c.in_ok-held.held.payload })) s.ordered at refl;
      rises = installed_rises g.row.N rows c.in_ok-held.held.place c.args.item c.in_ok-held.held.payload (record { time = c.args.time; payload = c.in_ok-held.held.payload }) s.ordered at s.rises
          (ap (λ o. later o c.args.time) (sym n) ∙ sym c.if-not-is_later.ensures);
    }

pub returns : goal.returns
returns g c =
    let s = c.args.self.now in
    let rows = c.args.self.now.rows.items in
    let at = found_at rows c.args.item c.find_staged.result c.in_ok-held.held (c.ok_or.ensures.ok_part ∙ ap result_ok c.in_ok-held.was) c.find_staged.ensures in
    let n = c.newest_of.ensures in
    let p = staged_at_lem g.row.N rows c.in_ok-held.held.place c.args.item c.in_ok-held.held.payload s.ordered at in
    record {
      value = install_ok g.row.N (versions_of rows) (staged_of rows) c.args.item c.args.time (omega arith)
          (is_staged_lem g.row.N rows c.in_ok-held.held.place c.args.item c.in_ok-held.held.payload s.ordered at)
          (ap (λ o. later o c.args.time) (sym n) ∙ sym c.if-not-is_later.ensures);
      stagings = fun_ext (λ q. set_staged g.row.N rows c.in_ok-held.held.place c.args.item c.in_ok-held.held.payload
          (Installed c.args.item (record { time = c.args.time; payload = c.in_ok-held.held.payload })) q s.ordered at refl);
      versions = fun_ext (λ q. installed_versions g.row.N rows c.in_ok-held.held.place c.args.item c.in_ok-held.held.payload
          (record { time = c.args.time; payload = c.in_ok-held.held.payload }) q s.ordered at)
          ∙ ap (λ o. with (versions_of rows) c.args.item (grown (versions_of rows c.args.item) c.args.time o)) (sym p);
      capacity = refl;
    }
