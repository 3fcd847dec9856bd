-- A fresh line, of which nothing was seen.
use Rattle.std.proofs.Common.{◌≡◌, ℕ, ◌≤◌, false, length, is_some, None, sym, refl, ap, ◌∙◌, subst, inr, arith}
use Rattle.protocol.specs.declared.sites.Site.{Site}
use Rattle.protocol.specs.declared.sites.Site.TheVariants.{Cell0, Cell1, Cell2, Cell3}
use Rattle.protocol.specs.declared.messages.Decision.TheVariants.{Commit}
use Rattle.protocol.specs.declared.answers.Stage.TheVariants.{Open, Decided}
use Rattle.protocol.specs.Sites.{at}
use Rattle.table.specs.Contents.{find_in}
use Rattle.store.specs.Meaning.{last_of}
use Rattle.cohort.specs.Steps.{tx_of}
use Rattle.coordinator.specs.Steps.{number_in, opened}
use Rattle.model.specs.Lines.{LineView}
use Rattle.serial.specs.Observer.{nothing}
use Rattle.serial.specs.Runs.{Fresh}
use Rattle.serial.proofs.Lives.{Unknown, Apart, At, newest, before, Kept}
use Rattle.serial.proofs.Histories.{History, log_at, Good}

abbrev pub start : {P : Type 0} → History P
start = record { seen = nothing; life = λ s x. Unknown; live = λ x. false }

none_joined : (x : ℕ) (s : Site) → at (opened x).joined s ≡ false
none_joined x s = elim s as (λ s. at (opened x).joined s ≡ false) [ Cell0 ↦ refl | Cell1 ↦ refl | Cell2 ↦ refl | Cell3 ↦ refl ]

none_acked : (x : ℕ) (s : Site) → at (opened x).acks s ≡ false
none_acked x s = elim s as (λ s. at (opened x).acks s ≡ false) [ Cell0 ↦ refl | Cell1 ↦ refl | Cell2 ↦ refl | Cell3 ↦ refl ]

none_cast : (x : ℕ) (s : Site) → at (opened x).votes s ≡ None
none_cast x s = elim s as (λ s. at (opened x).votes s ≡ None) [ Cell0 ↦ refl | Cell1 ↦ refl | Cell2 ↦ refl | Cell3 ↦ refl ]

never : (t : ℕ) → Open ≡ Decided (Commit t) → ⊥
never t e = let z : ◌≡◌ {A = ℕ} 0 1 = cc in omega arith

kept_start : {P : Type 0} (v : LineView P) → Fresh v → (s : Site) → Kept (at v.cells s) (λ x. Unknown) (log_at nothing s)
kept_start {P} v m s = record {
  narrow = m.narrow s;
  single = subst (Apart tx_of) (sym (m.cohorts s)) tt;
  like = record { each = λ x. subst (λ cs. At (find_in tx_of cs x) Unknown (λ i. false) (λ i. false)) (sym (m.cohorts s)) refl; staged = λ i. refl; versions = λ i. refl; last = refl };
  inv = record {
    within = λ x i a. absurd (grind (arith, a));
    new_r = λ x i a. refl;
    new_w = λ x i a. refl;
    whole = λ x a. absurd (grind (arith, a));
    past = λ x a b. absurd (grind (arith, a));
    lock_w = λ x y i ne a b c d. grind (arith, a);
    lock_r = λ x y i ne a b c d. grind (arith, a);
    above_w = λ x y i ne a b c d. absurd (grind (arith, a));
    above_r = λ x y i ne a b c d. absurd (grind (arith, a));
    apart_w = λ x y i ne a b c d. absurd (grind (arith, a));
    apart_r = λ x y i ne a b c d. absurd (grind (arith, a));
    stages = λ x i a b. absurd (grind (arith, a));
  };
  written = λ i u e. absurd (let q = ap last_of (sym (m.versions s i)) ∙ e in let z : ◌≡◌ {A = ℕ} 0 1 = cc in omega arith);
  ties = record {
    writes = λ x i. refl;
    reads = λ x i. refl;
    stages = λ x i a b. absurd (grind (arith, a));
    now = λ x a. tt;
    then = λ x t a b c. tt;
    version = λ i t. inr (record { absent = ap (λ vs. before vs t) (m.versions s i); nobody = λ z a b c. grind (arith, a) });
    top = λ i t k. ap (λ vs. before vs t) (m.versions s i) ∙ sym (ap newest (m.versions s i));
  };
}

pub good_start : {P : Type 0} (v : LineView P) → Fresh v → Good v start
good_start {P} v m = record {
  post = m.post;
  transactions = λ x. ap (λ ds. find_in number_in ds x) m.transactions;
  lone = subst (Apart number_in) (sym m.transactions) tt;
  few = subst (λ ds. length ds ≤ 16) (sym m.transactions) (omega arith);
  light = subst (λ ms. length ms ≤ 64) (sym m.post) (omega arith);
  cells = kept_start v m;
  tabled = λ s x. ap (λ cs. is_some (find_in tx_of cs x)) (m.cohorts s);
  sound = record {
    joined = λ x s. none_joined x s;
    cast = λ x s r e u. absurd (let k = sym (none_cast x s) ∙ e in let z : ◌≡◌ {A = ℕ} 0 1 = cc in omega arith);
    held = λ x s t e u. absurd (never t e);
    won = λ x s e. absurd (grind (arith, e));
    acks = λ x s e. absurd (let k = sym (none_acked x s) ∙ e in grind (arith, k));
    voted = λ x s t e. absurd (never t e);
    settled = λ x s. refl;
    mails = tt;
  };
  unborn = λ x k. (refl, refl);
}
