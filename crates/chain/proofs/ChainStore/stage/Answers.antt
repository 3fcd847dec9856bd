use Rattle.std.proofs.Common.{◌-◌, ◌<◌, set, refl, ap, ◌∙◌, arith, rules}
use Rattle.std.specs.Result.{result_ok}
use Rattle.store.proofs.Answering.{stage_over, stage_new, stage_full}
use Rattle.chain.specs.declared.Row.TheVariants.{Staged}
use Rattle.chain.specs.Rows.{is_free, linked, versions_of, staged_of, staged_at}
use Rattle.chain.proofs.Links.{look_read, none_left}
use Rattle.chain.proofs.Steps.{sound, staged_in_lem, some_staged, replace_sound, replace_staged, replace_versions, free_row, free_in, stage_sound, stage_staged, stage_versions}
use Rattle.chain.proofs.ChainStore.stage.Goals as goal

-- the payload replaces an earlier one
pub index_mut-requires : goal.index_mut-requires
index_mut-requires g c =
    let l = staged_in_lem (sound c.args.self.now) c.args.item c.in-Some.place c.in-Some.is in
    let m = c.args.self.now.rows.ok.0 in omega arith

pub invariant_of-self : goal.invariant_of-self
invariant_of-self g c =
    let n = replace_sound (sound c.args.self.now) c.args.item c.in-Some.place c.args.payload (omega arith) c.in-Some.is in
    record {
      small = c.args.self.now.small;
      room = c.args.self.now.room;
      wide = n.wide;
      frees = n.frees;
      links = n.links;
      stages = n.stages;
      full = n.full;
      rises = n.rises;
    }

pub returns-in-Some : goal.returns-in-Some
returns-in-Some g c =
    let h = sound c.args.self.now in
    let rows = c.args.self.now.rows.items in
    let slots = c.args.self.now.slots in
    record {
      value = stage_over g.row.N c.args.self.now.rows.len (versions_of rows slots) (staged_of rows slots) c.args.item (omega arith) (some_staged h c.args.item c.in-Some.place c.in-Some.is);
      stagings = replace_staged h c.args.item c.in-Some.place c.args.payload (omega arith) c.in-Some.is;
      versions = replace_versions h c.args.item c.in-Some.place c.args.payload c.in-Some.is;
      capacity = refl;
    }

-- no row is left
pub returns-in_err-place-clause-value : goal.returns-in_err-place-clause-value
returns-in_err-place-clause-value g c =
    let rows = c.args.self.now.rows.items in
    let slots = c.args.self.now.slots in
    let z = none_left rows c.args.self.now.left c.args.self.now.free (c.ok_or.ensures.ok_part ∙ ap result_ok c.in_err-place.was) c.args.self.now.frees in
    let m = c.args.self.now.rows.ok.0 in
    let u = c.args.self.now.full in
    search rules ∙ stage_full g.row.N c.args.self.now.rows.len (versions_of rows slots) (staged_of rows slots) c.args.item (omega arith) (ap (staged_at rows) c.in_default.is) (omega arith)

-- the first unused row is taken
pub index-requires : goal.index-requires
index-requires g c =
    let l = free_in (sound c.args.self.now) c.in_ok-place.place (c.ok_or.ensures.ok_part ∙ ap result_ok c.in_ok-place.was) in
    let m = c.args.self.now.rows.ok.0 in omega arith

pub index_mut-requires-2 : goal.index_mut-requires-2
index_mut-requires-2 g c =
    let l = free_in (sound c.args.self.now) c.in_ok-place.place (c.ok_or.ensures.ok_part ∙ ap result_ok c.in_ok-place.was) in
    let m = c.args.self.now.rows.ok.0 in omega arith

pub invariant_of-self-2 : goal.invariant_of-self-2
invariant_of-self-2 g c =
    let h = sound c.args.self.now in
    let rows = c.args.self.now.rows.items in
    let j = c.in_ok-place.place in
    let z : 0 < c.args.self.now.left = (free_row h j (c.ok_or.ensures.ok_part ∙ ap result_ok c.in_ok-place.was)).1 in
    let f = look_read rows j c.index.result.now c.index.result.now (free_in h j (c.ok_or.ensures.ok_part ∙ ap result_ok c.in_ok-place.was)) c.index.ensures in
    let n = stage_sound h c.args.item j c.args.payload c.index.result.now (c.args.self.now.left - 1) (omega arith) c.in_default.is (c.ok_or.ensures.ok_part ∙ ap result_ok c.in_ok-place.was) f (omega arith) in
    let frees = ap (λ o. linked is_free (set rows j (Staged c.args.item c.args.payload)) (c.args.self.now.left - 1) o) c.next_free-next.ensures ∙ n.frees in
    record {
      small = c.args.self.now.small;
      room = c.args.self.now.room;
      wide = n.wide;
      frees = frees;
      links = n.links;
      stages = n.stages;
      full = n.full;
      rises = n.rises;
    }

pub returns : goal.returns
returns g c =
    let h = sound c.args.self.now in
    let rows = c.args.self.now.rows.items in
    let slots = c.args.self.now.slots in
    let j = c.in_ok-place.place in
    let z : 0 < c.args.self.now.left = (free_row h j (c.ok_or.ensures.ok_part ∙ ap result_ok c.in_ok-place.was)).1 in
    let m = c.args.self.now.rows.ok.0 in
    let u = c.args.self.now.full in
    record {
      value = stage_new g.row.N c.args.self.now.rows.len (versions_of rows slots) (staged_of rows slots) c.args.item (omega arith) (ap (staged_at rows) c.in_default.is) (omega arith);
      stagings = stage_staged h c.args.item j c.args.payload (omega arith) (c.ok_or.ensures.ok_part ∙ ap result_ok c.in_ok-place.was);
      versions = stage_versions h c.args.item j c.args.payload (omega arith) (c.ok_or.ensures.ok_part ∙ ap result_ok c.in_ok-place.was);
      capacity = refl;
    }
