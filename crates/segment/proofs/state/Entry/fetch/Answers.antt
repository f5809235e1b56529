use Rattle.std.proofs.Common.{◌≡◌, false, sym, refl, ◌∙◌, rules}
use Rattle.record.specs.Layout.{layout}
use Rattle.segment.specs.Views.{tag}
use Rattle.segment.proofs.Turning.{expects, when_off, when_idle, when_other, when_write_look, when_write_store, when_write_settle, when_read, place_stays}
use Rattle.segment.proofs.state.Entry.fetch.Goals as goal

pub returns-in-Off-default : goal.returns-in-Off-default
returns-in-Off-default g c = record { turned = when_off g.C.Code.meaning c.args.me c.args.i c.args.self.now c.requires c.in-Off-default.is-0; place = refl }

pub returns-in-Idle-default : goal.returns-in-Idle-default
returns-in-Idle-default g c = record { turned = when_idle g.C.Code.meaning c.args.me c.args.i c.args.self.now c.requires c.in-Idle-default.is-0; place = refl }

pub returns-in-WriteLook-Looked : goal.returns-in-WriteLook-Looked
returns-in-WriteLook-Looked g c =
    let x = c.args.self.now in
    record {
      turned = when_write_look g.C.Code.meaning c.args.me c.args.i x c.requires c.fetch_look.new.self _ c.in-WriteLook-Looked.is-0 (sym c.mail.ensures ∙ c.in-WriteLook-Looked.is-1) (c.fetch_look.ensures.turned c.args.place.now);
      place = place_stays c.fetch_look.result c.args.place.now (layout c.args.place.now) c.fetch_look.ensures.place;
    }

pub returns-in-WriteStore-Stored : goal.returns-in-WriteStore-Stored
returns-in-WriteStore-Stored g c =
    let x = c.args.self.now in
    record {
      turned = when_write_store g.C.Code.meaning c.args.me c.args.i x c.requires c.fetch_store.new.self _ c.in-WriteStore-Stored.is-0 (sym c.mail.ensures ∙ c.in-WriteStore-Stored.is-1) (c.fetch_store.ensures.turned c.args.place.now);
      place = place_stays c.fetch_store.result c.args.place.now (layout c.args.place.now) c.fetch_store.ensures.place;
    }

pub returns-in-WriteSettle-Settled : goal.returns-in-WriteSettle-Settled
returns-in-WriteSettle-Settled g c =
    let x = c.args.self.now in
    record {
      turned = when_write_settle g.C.Code.meaning c.args.me c.args.i x c.requires c.fetch_settle.new.self _ c.in-WriteSettle-Settled.is-0 (sym c.mail.ensures ∙ c.in-WriteSettle-Settled.is-1) (c.fetch_settle.ensures.turned c.args.place.now);
      place = place_stays c.fetch_settle.result c.args.place.now (layout c.args.place.now) c.fetch_settle.ensures.place;
    }

pub returns-in-ReadLook-Looked : goal.returns-in-ReadLook-Looked
returns-in-ReadLook-Looked g c =
    let x = c.args.self.now in
    record {
      turned = when_read g.C.Code.meaning c.args.me c.args.i x c.requires c.fetch_read.new.self _ c.in-ReadLook-Looked.is-0 (sym c.mail.ensures ∙ c.in-ReadLook-Looked.is-1) c.fetch_read.ensures.turned;
      place = c.fetch_read.ensures.place;
    }

pub returns-in_default : goal.returns-in_default
returns-in_default g c =
    let w : expects c.args.self.now.phase (tag c.args.self.now.post c.args.i) ≡ false = search rules in
    record { turned = when_other g.C.Code.meaning c.args.me c.args.i c.args.self.now c.requires w; place = refl }

pub returns-in_default-2 : goal.returns-in_default-2
returns-in_default-2 g c =
    let w : expects c.args.self.now.phase (tag c.args.self.now.post c.args.i) ≡ false = search rules in
    record { turned = when_other g.C.Code.meaning c.args.me c.args.i c.args.self.now c.requires w; place = refl }

pub returns-in_default-3 : goal.returns-in_default-3
returns-in_default-3 g c =
    let w : expects c.args.self.now.phase (tag c.args.self.now.post c.args.i) ≡ false = search rules in
    record { turned = when_other g.C.Code.meaning c.args.me c.args.i c.args.self.now c.requires w; place = refl }

pub returns-in_default-4 : goal.returns-in_default-4
returns-in_default-4 g c =
    let w : expects c.args.self.now.phase (tag c.args.self.now.post c.args.i) ≡ false = search rules in
    record { turned = when_other g.C.Code.meaning c.args.me c.args.i c.args.self.now c.requires w; place = refl }
