-- What the caller is told.
use Rattle.std.proofs.Common.{◌≡◌, ◌≢◌, ℕ, zero, suc, ◌-◌, ◌<◌, false, ltb, List, ◌∷◌, ◌++◌, length, Result, Ok, Err, sym, ap, ◌∙◌, append_assoc, arith}
use Rattle.std.specs.Prelude.{IfOk}
use Rattle.std.proofs.lemmas.Bool.{le-ltb}
use Rattle.std.proofs.lemmas.List.{length-append, append_cancel_left}
use Rattle.sms_saved.specs.declared.fault.Halt.{Halt}
use Rattle.sms_saved.specs.declared.fault.ReadFault.{ReadFault}
use Rattle.sms_saved.specs.declared.fault.StateFault.TheVariants.{Newer, OtherLimits}
use Rattle.sms_saved.specs.declared.state.Limits.{Limits}
use Rattle.sms_saved.specs.declared.state.State.{State}
use Rattle.sms_saved.specs.Value.{StateValue, view}
use Rattle.sms_saved.specs.Fits.{LimitsFit, StateFits}
use Rattle.sms_saved.specs.Spelling.{eight, set, remembered, counted, limits, magic, head, front, body, digest, spelling}
use Rattle.sms_saved.specs.Reading.Whole.{any_limits_at, version_at, head_at, body_at, state_at, Tells, placed}
use Rattle.sms_saved.proofs.TakenFields.{IsBytes, ok_is}
use Rattle.sms_saved.proofs.Keys.{regroup3}
use Rattle.sms_saved.proofs.LimitsRead.{reads_any_limits, limits_other}
use Rattle.sms_saved.proofs.Whole.{head_again, state_takes}

placed_ok : {A : Type 0} (all : ℕ) (r : Result A Halt) (s : A) → placed all r ≡ Ok s → r ≡ Ok s
placed_ok all (Ok x) s e = cc
placed_ok all (Err h) s e = absurd cc

pub is_found : (own : Limits) (bytes : List ℕ) (r : Result State ReadFault) → IsBytes bytes → Tells view r (placed (length bytes) (state_at own bytes))
    → IfOk r (λ s. StateFits (view s) × ((view s).limits ≡ own) × (bytes ≡ spelling (view s)))
is_found own bytes (Ok s) fits given =
    let t = state_takes own bytes (view s) fits (placed_ok (length bytes) (state_at own bytes) (view s) given) in
    (t.0.0, t.0.1, t.1)
is_found own bytes (Err e) fits given = tt

-- a higher version
pub newer_at : (own : Limits) (v : ℕ) (rest : List ℕ) → 1 < v → placed (length (magic ++ v ∷ rest)) (state_at own (magic ++ v ∷ rest)) ≡ Err (record { place = 8; why = Newer v })
unfolding state_at body_at head_at version_at
newer_at own zero rest lt = absurd (omega arith)
newer_at own (suc zero) rest lt = absurd (omega arith)
newer_at own (suc (suc v)) rest lt =
    let long : ltb (length (magic ++ suc (suc v) ∷ rest)) 8 ≡ false = le-ltb _ _ (omega (arith, length-append magic (suc (suc v) ∷ rest))) in
    let eight_before : length (magic ++ suc (suc v) ∷ rest) - suc (length rest) ≡ 8 = omega (arith, length-append magic (suc (suc v) ∷ rest)) in
    rw long (ap (λ (p : ℕ). Err (record { place = p; why = Newer (suc (suc v)) })) eight_before)

-- a state of another joiner

abbrev after_limits : StateValue → List ℕ → List ℕ
after_limits s end = eight s.taken ++ (eight s.next ++ (counted set s.sets ++ (counted remembered s.keys ++ end)))

body_parts : (s : StateValue) (end : List ℕ) → body s ++ end ≡ head ++ (limits s.limits ++ after_limits s end)
unfolding body
body_parts s end =
    let r4 : List ℕ = counted set s.sets ++ (counted remembered s.keys ++ end) in
    regroup3 (front s.limits s.taken s.next) (counted set s.sets) (counted remembered s.keys) end ∙ append_assoc (head ++ limits s.limits ++ eight s.taken) (eight s.next) r4 ∙ regroup3 head (limits s.limits) (eight s.taken) (eight s.next ++ r4)

other_limits : (own l : Limits) (back : List ℕ) → LimitsFit l → l ≢ own → placed (length (head ++ (limits l ++ back))) (state_at own (head ++ (limits l ++ back))) ≡ Err (record { place = 9; why = OtherLimits })
unfolding state_at body_at
other_limits own l back fits differ =
    let rest : List ℕ = limits l ++ back in
    let nine : length (head ++ rest) - length rest ≡ 9 = omega (arith, length-append head rest) in
    rw (head_again rest, limits_other own l back fits differ) (ap (λ (p : ℕ). Err (record { place = p; why = OtherLimits })) nine)

pub other_at : (own : Limits) (s : StateValue) → StateFits s → s.limits ≢ own → placed (length (spelling s)) (state_at own (spelling s)) ≡ Err (record { place = 9; why = OtherLimits })
other_at own s fits differ =
    ap (λ (b : List ℕ). placed (length b) (state_at own b)) (body_parts s (digest (body s))) ∙ other_limits own s.limits (after_limits s (digest (body s))) fits.limits differ

-- ---- limits are told by what a state begins with

pub same_front : (s t : StateValue) (x y : List ℕ) → LimitsFit s.limits → LimitsFit t.limits → body s ++ x ≡ body t ++ y → s.limits ≡ t.limits
same_front s t x y fs ft e =
    let rests : limits s.limits ++ after_limits s x ≡ limits t.limits ++ after_limits t y = append_cancel_left head _ _ (sym (body_parts s x) ∙ e ∙ body_parts t y) in
    let one = reads_any_limits.again s.limits (after_limits s x) fs in
    let two = reads_any_limits.again t.limits (after_limits t y) ft in
    let p : Limits × List ℕ = (s.limits, after_limits s x) in
    let q : Limits × List ℕ = (t.limits, after_limits t y) in
    ap (λ (z : Limits × List ℕ). z.0) (ok_is p q (sym one ∙ ap any_limits_at rests ∙ two))
