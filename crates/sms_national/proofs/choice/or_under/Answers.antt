use Rattle.std.proofs.Common.{[], ◌∷◌, ◌++◌, Some, refl, sym, subst}
use Rattle.std.specs.Str.{chars}
use Rattle.sms_language.specs.declared.tables.Tables.{Tables}
use Rattle.sms_national.specs.Cut.{IsCutUnder}
use Rattle.sms_national.specs.Choice.{Under}
use Rattle.sms_national.specs.Inside.Best.{IsBest}
use Rattle.sms_national.proofs.BestLaws.{best_stays, fewer_is_best, no_cut, too_many_under}
use Rattle.sms_national.proofs.choice.or_under.Goals as goal

pub returns-in-Ok-Some-clause-best : goal.returns-in-Ok-Some-clause-best
returns-in-Ok-Some-clause-best c all h =
    let text = chars c.args.text.now in
    let s = rw c.in-Ok-Some.field-0-is at c.in-Ok-Some.ensures.segments in
    let few = rw c.in-Ok-Some.field-0-is at c.in-Ok-Some.ensures.few in
    subst (λ (t : Tables). IsBest c.args.width text (all ++ Under t ∷ []) (Some c.fewer.result)) s.0
    (fewer_is_best c.national_cuts_are_one.ensures c.args.width text all c.args.best c.in-Ok-Some.cut c.fewer.result
    (s.1, subst (λ (t : Tables). IsCutUnder c.args.width t text c.in-Ok-Some.cut.pieces) (sym s.0) s.2, few) c.fewer.ensures h)

pub returns-in-Ok-None-clause-best : goal.returns-in-Ok-None-clause-best
returns-in-Ok-None-clause-best c all h =
    let text = chars c.args.text.now in
    let none = rw c.in-Ok-None.field-0-is at c.in-Ok-None.ensures.segments in
    best_stays c.args.width text all (Under c.args.tables) c.args.best (no_cut c.args.width text c.args.tables none) h

pub returns-in-Err-TooManySegments-clause-best : goal.returns-in-Err-TooManySegments-clause-best
returns-in-Err-TooManySegments-clause-best c all h =
    let text = chars c.args.text.now in
    let t = (rw c.in-Err-TooManySegments.field-0-is at c.in-Err-TooManySegments.ensures.too_many) refl in
    best_stays c.args.width text all (Under c.args.tables) c.args.best (too_many_under c.national_cuts_are_one.ensures c.args.width text c.args.tables t.0 t.1 t.2) h
