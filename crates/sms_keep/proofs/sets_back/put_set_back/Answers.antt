use Rattle.std.proofs.Common.{◌∙◌, sym, arith}
use Rattle.sms_join.specs.OpenSets.Places.{set_by}
use Rattle.sms_saved.specs.Value.{view_places, view_set}
use Rattle.sms_keep.specs.Inside.Restoring.{IsSavedAs}
use Rattle.sms_keep.proofs.PlacesBack.{maximum_is, as_many, open_places, set_back}
use Rattle.sms_keep.proofs.sets_back.put_set_back.Goals as goal

pub put_back-requires-clause-some : goal.put_back-requires-clause-some
put_back-requires-clause-some c =
    (open_places c.in_ok-back.back.items (view_places c.args.own.places.items) c.in_ok-back.ensures c.requires.fits.is_open).0

pub put_back-requires-clause-part : goal.put_back-requires-clause-part
put_back-requires-clause-part c =
    let own : IsSavedAs c.args.own.key c.in-Some.key = rw c.in-Some.is at c.in_ok-key.ensures in
    let h = (open_places c.in_ok-back.back.items (view_places c.args.own.places.items) c.in_ok-back.ensures c.requires.fits.is_open).1 in
    let m = as_many c.in_ok-back.back.items (view_places c.args.own.places.items) c.in_ok-back.ensures in
    let e = maximum_is c.in-Some.key c.args.own.key own.saved in
    omega (arith, h, m, e, c.requires.fits.count)

pub returns : goal.returns
returns c =
    let own : IsSavedAs c.args.own.key c.in-Some.key = rw c.in-Some.is at c.in_ok-key.ensures in
    let d = c.in_ok-put_back.ensures.told in
    record {
      is_new = record { own = c.in-Some.key; saved = own; fresh = sym c.remembers.ensures ∙ c.if-remembers.false };
      told = (
        set_by c.in-Some.key c.args.own.moment d.0 c.in_ok-back.back.items,
        d.1,
        set_back (view_set c.args.own) c.in-Some.key d.0 c.in_ok-back.back.items own.saved c.in_ok-back.ensures c.requires.fits.count,
        own.spelled,
      );
      kept = c.put_back.ensures.kept;
      finished = c.put_back.ensures.finished;
      finishings = c.put_back.ensures.finishings;
      limits = c.put_back.ensures.limits;
    }
