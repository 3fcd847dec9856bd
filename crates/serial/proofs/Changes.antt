-- How a cell of functions changes, and what each change rests on.
use Rattle.std.proofs.Common.{◌≡◌, ℕ, ◌<◌, ◌≤◌, max, true, false, cond, ◌&&◌, ◌||◌, eqb, Some, None}
use Rattle.protocol.specs.declared.messages.Range.{Range}
use Rattle.store.specs.Meaning.{with, grown}
use Rattle.serial.proofs.Lives.{Life, Installed, is_working, is_prepared, is_holding, hi, Image}

-- x becomes something else
abbrev pub with_life : {P : Type 0} → Image P → ℕ → Life → Image P
with_life s x p = record { life = with s.life x p; reads = s.reads; writes = s.writes; staged = s.staged; versions = s.versions; last = s.last }

-- x reads or writes an item
abbrev pub with_read : {P : Type 0} → Image P → ℕ → ℕ → Image P
with_read s x i = record { life = s.life; reads = λ y j. (eqb x y && eqb i j) || s.reads y j; writes = s.writes; staged = s.staged; versions = s.versions; last = s.last }

abbrev pub with_write : {P : Type 0} → Image P → ℕ → ℕ → P → Image P
with_write s x i p =
    record { life = s.life; reads = s.reads; writes = λ y j. (eqb x y && eqb i j) || s.writes y j; staged = with s.staged i (Some p); versions = s.versions; last = s.last }

-- x ends: what it staged is unstaged, or installed at a tick
abbrev pub with_end : {P : Type 0} → Image P → ℕ → Life → Image P
with_end s x p = record { life = with s.life x p; reads = s.reads; writes = s.writes; staged = λ i. cond (s.writes x i) None (s.staged i); versions = s.versions; last = s.last }

abbrev pub with_install : {P : Type 0} → Image P → ℕ → ℕ → Image P
with_install s x t = record {
  life = with s.life x (Installed t);
  reads = s.reads;
  writes = s.writes;
  staged = λ i. cond (s.writes x i) None (s.staged i);
  versions = λ i. cond (s.writes x i) (grown (s.versions i) t (s.staged i)) (s.versions i);
  last = max s.last t;
}

pub record MayRead {P : Type 0} (s : Image P) (x i : ℕ) : Type 0 where
  pub working : is_working (s.life x) ≡ true
  pub free : (y : ℕ) → (y ≡ x → ⊥) → is_holding (s.life y) ≡ true → s.writes y i ≡ false

pub record MayWrite {P : Type 0} (s : Image P) (x i : ℕ) : Type 0 where
  pub working : is_working (s.life x) ≡ true
  pub free : (y : ℕ) → (y ≡ x → ⊥) → is_holding (s.life y) ≡ true → s.writes y i ≡ false
  pub unread : (y : ℕ) → (y ≡ x → ⊥) → is_working (s.life y) ≡ true → s.reads y i ≡ false

-- a range that x may promise
pub record MayVote {P : Type 0} (s : Image P) (x : ℕ) (g : Range) : Type 0 where
  pub working : is_working (s.life x) ≡ true
  pub whole : g.earliest ≤ g.latest
  pub later : s.last < g.earliest
  pub delayed : (y i : ℕ) → (y ≡ x → ⊥) → is_prepared (s.life y) ≡ true → s.writes x i ≡ true → s.reads y i ≡ true → hi (s.life y) < g.earliest
