use Rattle.std.proofs.Common.{is_some, sym, refl, ap, ◌∙◌, arith}
use Rattle.std.specs.Result.{result_ok}
use Rattle.store.specs.Meaning.{later}
use Rattle.store.proofs.Answering.{newest_ok, install_ok, install_late}
use Rattle.chain.specs.Rows.{staged_of, versions_of}
use Rattle.chain.proofs.Links.{look_read}
use Rattle.chain.proofs.Steps.{sound, staged_in_lem, some_staged, has_payload, install_sound, install_staged, install_versions, count_in}
use Rattle.chain.proofs.ChainStore.install.Goals as goal

pub returns-then-not-is_later : goal.returns-then-not-is_later
returns-then-not-is_later g c =
    let h = sound c.args.self.now in
    let vs = versions_of c.args.self.now.rows.items c.args.self.now.slots in
    let n = newest_ok g.row.N vs c.args.item c.in_ok-newest.newest c.in_ok-newest.ensures in
    record {
      value = install_late g.row.N vs (staged_of c.args.self.now.rows.items c.args.self.now.slots) c.args.item c.args.time n.0
          (some_staged h c.args.item c.in_ok-place.place (c.ok_or.ensures.ok_part ∙ ap result_ok c.in_ok-place.was)) (ap (λ o. later o c.args.time) n.1 ∙ sym c.if-not-is_later.ensures);
      stagings = refl;
      versions = refl;
      capacity = refl;
    }

pub index-requires : goal.index-requires
index-requires g c =
    let l = staged_in_lem (sound c.args.self.now) c.args.item c.in_ok-place.place (c.ok_or.ensures.ok_part ∙ ap result_ok c.in_ok-place.was) in
    let m = c.args.self.now.rows.ok.0 in omega arith

-- a row that the slot names as staged has a payload
pub unwrap-payload-requires : goal.unwrap-payload-requires
unwrap-payload-requires g c =
    let h = sound c.args.self.now in
    let e = c.ok_or.ensures.ok_part ∙ ap result_ok c.in_ok-place.was in
    let f = look_read c.args.self.now.rows.items c.in_ok-place.place c.index.result.now c.index.result.now (staged_in_lem h c.args.item c.in_ok-place.place e) c.index.ensures in
    ap is_some c.payload.ensures ∙ has_payload h c.args.item c.in_ok-place.place c.index.result.now e f

pub index_mut-requires : goal.index_mut-requires
index_mut-requires g c =
    let l = staged_in_lem (sound c.args.self.now) c.args.item c.in_ok-place.place (c.ok_or.ensures.ok_part ∙ ap result_ok c.in_ok-place.was) in
    let m = c.args.self.now.rows.ok.0 in omega arith

pub overflow_add-self : goal.overflow_add-self
overflow_add-self g c =
    let vs = versions_of c.args.self.now.rows.items c.args.self.now.slots in
    let n = newest_ok g.row.N vs c.args.item c.in_ok-newest.newest c.in_ok-newest.ensures in
    let l = count_in (sound c.args.self.now) c.args.item n.0 in
    let m = c.args.self.now.rows.ok.0 in
    let r = c.args.self.now.room.1 in omega arith

pub invariant_of-self : goal.invariant_of-self
invariant_of-self g c =
    let h = sound c.args.self.now in
    let vs = versions_of c.args.self.now.rows.items c.args.self.now.slots in
    let o = newest_ok g.row.N vs c.args.item c.in_ok-newest.newest c.in_ok-newest.ensures in
    let n = install_sound h c.args.item c.in_ok-place.place (record { time = c.args.time; payload = c.unwrap-payload.result }) o.0 (c.ok_or.ensures.ok_part ∙ ap result_ok c.in_ok-place.was)
    (ap (λ p. later p c.args.time) o.1 ∙ sym c.if-not-is_later.ensures) in
    record {
      small = c.args.self.now.small;
      room = c.args.self.now.room;
      wide = n.wide;
      frees = n.frees;
      links = n.links;
      stages = n.stages;
      full = n.full;
      rises = n.rises;
    }

pub returns : goal.returns
returns g c =
    let h = sound c.args.self.now in
    let rows = c.args.self.now.rows.items in
    let slots = c.args.self.now.slots in
    let o = newest_ok g.row.N (versions_of rows slots) c.args.item c.in_ok-newest.newest c.in_ok-newest.ensures in
    let f = look_read rows c.in_ok-place.place c.index.result.now c.index.result.now (staged_in_lem h c.args.item c.in_ok-place.place (c.ok_or.ensures.ok_part ∙ ap result_ok c.in_ok-place.was)) c.index.ensures in
    record {
      value = install_ok g.row.N (versions_of rows slots) (staged_of rows slots) c.args.item c.args.time o.0
          (some_staged h c.args.item c.in_ok-place.place (c.ok_or.ensures.ok_part ∙ ap result_ok c.in_ok-place.was)) (ap (λ p. later p c.args.time) o.1 ∙ sym c.if-not-is_later.ensures);
      stagings = install_staged h c.args.item c.in_ok-place.place (record { time = c.args.time; payload = c.unwrap-payload.result }) o.0 (c.ok_or.ensures.ok_part ∙ ap result_ok c.in_ok-place.was);
      versions = install_versions h c.args.item c.in_ok-place.place c.args.time c.unwrap-payload.result c.index.result.now o.0 (c.ok_or.ensures.ok_part ∙ ap result_ok c.in_ok-place.was) f
          (sym c.payload.ensures ∙ c.unwrap-payload.ensures);
      capacity = refl;
    }
