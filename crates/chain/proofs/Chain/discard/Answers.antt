use Rattle.std.proofs.Common.{None, sym, refl, ap, arith}
use Rattle.store.proofs.Changing.{with_self}
use Rattle.chain.specs.Rows.{staged_at, staged_of}
use Rattle.chain.proofs.Steps.{sound, staged_in_lem, unstage_sound, unstage_staged, unstage_versions}
use Rattle.chain.proofs.Chain.discard.Goals as goal

pub index_mut-requires : goal.index_mut-requires
index_mut-requires g c =
    let l = staged_in_lem (sound c.args.self.now) c.args.item c.in-Some.place c.in-Some.is in
    let m = c.args.self.now.rows.ok.0 in omega arith

pub invariant_of-self : goal.invariant_of-self
invariant_of-self g c =
    let n = unstage_sound (sound c.args.self.now) c.args.item c.in-Some.place (omega arith) c.in-Some.is in
    record {
      small = c.args.self.now.small;
      room = c.args.self.now.room;
      wide = n.wide;
      frees = n.frees;
      links = n.links;
      stages = n.stages;
      full = n.full;
      rises = n.rises;
    }

pub returns-in-Some : goal.returns-in-Some
returns-in-Some g c =
    let h = sound c.args.self.now in
    record {
      stagings = unstage_staged h c.args.item c.in-Some.place (omega arith) c.in-Some.is;
      versions = unstage_versions h c.args.item c.in-Some.place (omega arith) c.in-Some.is;
      capacity = refl;
    }

-- nothing is staged
pub returns-in_default : goal.returns-in_default
returns-in_default g c =
    let rows = c.args.self.now.rows.items in
    let slots = c.args.self.now.slots in
    record {
      stagings = sym (with_self (staged_of rows slots) c.args.item None (sym (ap (staged_at rows) c.in_default.is)));
      versions = refl;
      capacity = refl;
    }
