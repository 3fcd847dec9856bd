-- The versions and staged payloads after those of a set's items below a bound were installed or unstaged.
use Rattle.std.specs.Prelude.{ℕ, Bool, cond, ◌&&◌, List, is_ok, None, Option, nat_lt}
use Rattle.items.specs.declared.ItemSet.{ItemSet}
use Rattle.items.specs.Sets.{has}
use Rattle.store.specs.declared.Version.{Version}
use Rattle.store.specs.Meaning.{install_answer, unstage_answer, grown}

-- whether the item is in the set, and its install is accepted
abbrev pub installs : {P : Type 0} → ℕ → (ℕ → List (Version P)) → (ℕ → Option P) → ItemSet → ℕ → ℕ → Bool
installs width versions stagings w t k = has w k && is_ok (install_answer width versions stagings k t)

abbrev pub versions_to : {P : Type 0} → ℕ → (ℕ → List (Version P)) → (ℕ → Option P) → ItemSet → ℕ → ℕ → ℕ → List (Version P)
versions_to width versions stagings w t i k = cond (nat_lt k i && installs width versions stagings w t k) (grown (versions k) t (stagings k)) (versions k)

abbrev pub staged_to : {P : Type 0} → ℕ → (ℕ → List (Version P)) → (ℕ → Option P) → ItemSet → ℕ → ℕ → ℕ → Option P
staged_to width versions stagings w t i k = cond (nat_lt k i && installs width versions stagings w t k) None (stagings k)

-- whether the item is in the set, and is one of the store
abbrev pub unstages : {P : Type 0} → ℕ → (ℕ → Option P) → ItemSet → ℕ → Bool
unstages width stagings w k = has w k && is_ok (unstage_answer width stagings k)

abbrev pub cleared_to : {P : Type 0} → ℕ → (ℕ → Option P) → ItemSet → ℕ → ℕ → Option P
cleared_to width stagings w i k = cond (nat_lt k i && unstages width stagings w k) None (stagings k)
