use Rattle.std.proofs.Common.{None, sym, refl, ap, ◌∙◌, rules}
use mathlib.Core.Path.{fun_ext}
use Rattle.store.specs.Meaning.{rising}
use Rattle.store.proofs.Changing.{with_self}
use Rattle.journal.specs.Rows.{versions_of, staged_of, sound}
use Rattle.journal.proofs.Writes.{removed_versions, removed_staged, removed_sound}
use Rattle.journal.proofs.Journal.discard.Goals as goal

pub invariant_of-self : goal.invariant_of-self
invariant_of-self g c =
    let s = c.args.self.now in
    let rows = c.args.self.now.rows.items in
    let at = c.in-Some.ensures.1 in
    let i = c.remove.ensures.items in record {
      wide = s.wide;
      room = search rules;
      ordered = ap (sound g.row.N) i ∙ removed_sound g.row.N rows c.in-Some.held.place s.ordered;
      rises = (λ k. ap (λ xs. rising (versions_of xs k)) i ∙ (ap rising (removed_versions rows c.in-Some.held.place c.args.item c.in-Some.held.payload k at) ∙ s.rises k));
    }

pub returns-in-Some : goal.returns-in-Some
returns-in-Some g c =
    let s = c.args.self.now in
    let rows = c.args.self.now.rows.items in
    let at = c.in-Some.ensures.1 in
    let i = c.remove.ensures.items in
    record {
      stagings = ap staged_of i ∙ fun_ext (λ q. removed_staged g.row.N rows c.in-Some.held.place c.args.item c.in-Some.held.payload q s.ordered at);
      versions = ap versions_of i ∙ fun_ext (λ q. removed_versions rows c.in-Some.held.place c.args.item c.in-Some.held.payload q at);
      capacity = refl;
    }

-- nothing is staged
pub returns-in_default : goal.returns-in_default
returns-in_default g c =
    let rows = c.args.self.now.rows.items in
    let none = c.in_default.ensures in
    record {
      stagings = sym (with_self (staged_of rows) c.args.item None (sym none));
      versions = refl;
      capacity = refl;
    }
