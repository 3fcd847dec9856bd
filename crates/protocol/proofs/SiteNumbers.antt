-- What it says of the number that a cell was found at it, or refused.
use Rattle.std.proofs.Common.{◌≡◌, ℕ, Ok, Err, ok_or, Some, None, Option}
use Rattle.protocol.specs.declared.sites.Site.{Site}
use Rattle.protocol.specs.declared.faults.Fault.{Fault}
use Rattle.protocol.specs.declared.faults.Fault.TheVariants.{NoCell}
use Rattle.protocol.specs.Sites.{site_of}
use Rattle.protocol.specs.Faults.{site_at}

pub site_found : (n : ℕ) (s : Site) → Ok s ≡ site_at n → site_of n ≡ Some s
site_found n s = go (site_of n)
  where
    go : (o : Option Site) → Ok s ≡ ok_or o (NoCell n) → o ≡ Some s
    go None e = cc
    go (Some z) e = cc

pub site_missing : (n : ℕ) (f : Fault) → Err f ≡ site_at n → site_of n ≡ None
site_missing n f = go (site_of n)
  where
    go : (o : Option Site) → Err f ≡ ok_or o (NoCell n) → o ≡ None
    go None e = cc
    go (Some z) e = cc

pub missing_fault : (n : ℕ) (f : Fault) → Err f ≡ site_at n → f ≡ NoCell n
missing_fault n f = go (site_of n)
  where
    go : (o : Option Site) → Err f ≡ ok_or o (NoCell n) → f ≡ NoCell n
    go None e = cc
    go (Some z) e = cc
