use Rattle.std.proofs.Common.{refl, ap, ◌∙◌, arith, rules}
use mathlib.Core.Path.{fun_ext}
use Rattle.store.specs.Meaning.{with, rising}
use Rattle.store.proofs.Answering.{stage_over, stage_new, stage_full}
use Rattle.journal.specs.declared.Row.TheVariants.{Staged}
use Rattle.journal.specs.Rows.{versions_of, staged_of, sound}
use Rattle.journal.specs.Counts.{used_is}
use Rattle.journal.proofs.Order.{staged_self, is_staged_lem}
use Rattle.journal.proofs.Writes.{set_staged, set_sound, replaced_versions, push_staged, push_versions, push_sound}
use Rattle.journal.proofs.JournalStore.stage.Goals as goal

-- the payload replaces an earlier one
pub invariant_of-self : goal.invariant_of-self
invariant_of-self g c =
    let s = c.args.self.now in
    let rows = c.args.self.now.rows.items in
    let at = c.in-Some.ensures.1 in record {
      wide = s.wide;
      room = s.room;
      ordered = set_sound g.row.N rows c.in-Some.held.place c.args.item c.in-Some.held.payload (Staged c.args.item c.args.payload) s.ordered at refl;
      rises = (λ k. ap rising (replaced_versions g.row.N rows c.in-Some.held.place c.args.item c.in-Some.held.payload c.args.payload k s.ordered at) ∙ s.rises k);
    }

pub returns-in-Some : goal.returns-in-Some
returns-in-Some g c =
    let s = c.args.self.now in
    let rows = c.args.self.now.rows.items in
    let at = c.in-Some.ensures.1 in
    record {
      value = stage_over g.row.N s.capacity (versions_of rows) (staged_of rows) c.args.item (omega arith)
          (is_staged_lem g.row.N rows c.in-Some.held.place c.args.item c.in-Some.held.payload s.ordered at);
      stagings = fun_ext (λ q. set_staged g.row.N rows c.in-Some.held.place c.args.item c.in-Some.held.payload (Staged c.args.item c.args.payload) q s.ordered at refl)
          ∙ ap (with (staged_of rows) c.args.item) (staged_self c.args.item c.args.payload);
      versions = fun_ext (λ q. replaced_versions g.row.N rows c.in-Some.held.place c.args.item c.in-Some.held.payload c.args.payload q s.ordered at);
      capacity = refl;
    }

-- a row is added
pub invariant_of-self-then-len-self : goal.invariant_of-self-then-len-self
invariant_of-self-then-len-self g c =
    let s = c.args.self.now in
    let rows = c.args.self.now.rows.items in
    let none = c.in-None.ensures in
    let i = c.push_reserved.ensures.items in record {
      wide = s.wide;
      room = search rules;
      ordered = ap (sound g.row.N) i ∙ push_sound g.row.N rows c.args.item c.args.payload (omega arith) s.ordered none;
      rises = (λ k. ap (λ xs. rising (versions_of xs k)) i ∙ (ap rising (push_versions rows c.args.item c.args.payload k) ∙ s.rises k));
    }

pub returns-in-None : goal.returns-in-None
returns-in-None g c =
    let s = c.args.self.now in
    let rows = c.args.self.now.rows.items in
    let u = used_is g.row.N rows c.args.self.now.ordered in
    let m = c.args.self.now.rows.ok.0 in
    let none = c.in-None.ensures in
    let i = c.push_reserved.ensures.items in
    record {
      value = stage_new g.row.N s.capacity (versions_of rows) (staged_of rows) c.args.item (omega arith) none (omega arith);
      stagings = ap staged_of i ∙ fun_ext (λ q. push_staged rows c.args.item c.args.payload q none);
      versions = ap versions_of i ∙ fun_ext (λ q. push_versions rows c.args.item c.args.payload q);
      capacity = refl;
    }

-- no row is left
pub returns-in-None-2 : goal.returns-in-None-2
returns-in-None-2 g c =
    let s = c.args.self.now in
    let rows = c.args.self.now.rows.items in
    let u = used_is g.row.N rows c.args.self.now.ordered in
    let m = c.args.self.now.rows.ok.0 in
    let none = c.in-None-2.ensures in
    record {
      value = stage_full g.row.N s.capacity (versions_of rows) (staged_of rows) c.args.item (omega arith) none (omega arith);
      stagings = refl;
      versions = refl;
      capacity = refl;
    }
