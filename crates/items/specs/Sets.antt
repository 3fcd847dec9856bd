-- A set of items by its members. Callers use the laws of proofs/Members.antt, and not these texts.
use Rattle.std.specs.Prelude.{ℕ, ◌/◌, ◌%◌, ◌^◌, Bool, cond, not, ◌==◌, bit_and, bit_or, nat_lt}
use Rattle.items.specs.declared.ItemSet.{ItemSet}

-- whether the item is in the set
unfoldable pub has : ItemSet → ℕ → Bool
has s i = s.bits / 2 ^ i % 2 == 1

unfoldable pub none : ItemSet
none = record { bits = 0 }

-- the set with one more item, below 64
unfoldable pub inserted : ItemSet → ℕ → ItemSet
inserted s i = cond (nat_lt i 64) (record { bits = bit_or s.bits (2 ^ i) }) s

-- whether an item is in both
unfoldable pub meeting : ItemSet → ItemSet → Bool
meeting s t = not (bit_and s.bits t.bits == 0)
