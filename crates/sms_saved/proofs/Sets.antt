-- Open sets and remembered keys are read as they are spelled.
use Rattle.std.proofs.Common.{◌≡◌, ℕ, zero, suc, ◌^◌, ◌<◌, Bool, true, false, ltb, ◌&&◌, List, [], ◌∷◌, ◌++◌, length, Option, Some, None, Ok, refl, ap, subst, ◌∙◌, append_assoc}
use Rattle.std.specs.Prelude.{IfSome}
use Rattle.std.specs.List.{flat_map, AllByRecursion}
use Rattle.std.specs.Int.{w16, w64}
use Rattle.std.proofs.lemmas.Bool.{ltb-true, lt-ltb}
use Rattle.sms_saved.specs.declared.fault.StateFault.TheVariants.{NotSeptet, NotOpen}
use Rattle.sms_saved.specs.declared.state.Remembered.{Remembered}
use Rattle.sms_saved.specs.Value.{UnitsValue, SetValue, maximum_of}
use Rattle.sms_saved.specs.Fits.{UnitsFit, unit_limit, SetFits, RememberedFits, KeyFits}
use Rattle.sms_saved.specs.Spelling.{two, eight, string, counted, numbers, place, key, front_of_set, set, remembered}
use Rattle.sms_saved.specs.Reading.Fields.{number_at, string_at, items_at}
use Rattle.sms_saved.specs.Reading.Keys.{key_at}
use Rattle.sms_saved.specs.Reading.Sets.{are_septets, septets_at, wide_at, place_at, any_set_at, has_open_places, set_at, remembered_at}
use Rattle.sms_saved.proofs.TakenFields.{IsBytes, IsBytes-rest, bind_ok, ok_is, Takes, Takes-then, Reads, reads_as, reads_tested}
use Rattle.sms_saved.proofs.Numbers.{reads_two, reads_eight}
use Rattle.sms_saved.proofs.Strings.{reads_string}
use Rattle.sms_saved.proofs.Items.{items_take, items_again, reads_counted}
use Rattle.sms_saved.proofs.Keys.{reads_key, regroup3}

-- ---- units

abbrev NumbersFit : Bool → List ℕ → Type 0
NumbersFit is_wide ns = (length ns < 2 ^ 64) × AllByRecursion (λ n. n < unit_limit is_wide) ns

and_true : (a b : Bool) → a && b ≡ true → (a ≡ true) × (b ≡ true)
and_true true b e = (refl, e)
and_true false b e = absurd cc

each_below : (ns : List ℕ) → are_septets ns ≡ true → AllByRecursion (λ n. n < unit_limit false) ns
each_below [] e = tt
each_below (n ∷ ns) e = let p = and_true (ltb n 128) (are_septets ns) e in (ltb-true n 128 p.0, each_below ns p.1)

all_below : (ns : List ℕ) → AllByRecursion (λ n. n < unit_limit false) ns → are_septets ns ≡ true
all_below [] h = refl
all_below (n ∷ ns) h = rw (lt-ltb n 128 h.0) (all_below ns h.1)

reads_septets : Reads septets_at (string eight) (NumbersFit false)
reads_septets = reads_as septets_at (string eight) (λ ns. (length ns < 2 ^ 64) × (are_septets ns ≡ true)) (NumbersFit false)
    (λ ns h. (h.0, each_below ns h.1)) (λ ns h. (h.0, all_below ns h.1)) (reads_tested are_septets NotSeptet (string_at (number_at w64)) (string eight) (λ ns. length ns < 2 ^ 64) (reads_string (number_at w64) eight (2 ^ 64) reads_eight))

reads_wide : Reads wide_at (counted two) (NumbersFit true)
reads_wide = reads_counted (number_at w16) two (λ n. n < 2 ^ 16) reads_two

-- ---- places

abbrev PlaceFits : Option UnitsValue → Type 0
PlaceFits p = IfSome p UnitsFit

place_takes : (bytes : List ℕ) (x : Option UnitsValue × List ℕ) → IsBytes bytes → place_at bytes ≡ Ok x → Takes bytes (place x.0) x.1 × PlaceFits x.0
unfolding place_at
place_takes [] x fits e = absurd cc
place_takes (zero ∷ bytes) x fits e =
    let made : Option UnitsValue × List ℕ = (None, bytes) in
    subst (λ (y : Option UnitsValue × List ℕ). Takes (0 ∷ bytes) (place y.0) y.1 × PlaceFits y.0) (ok_is made x e) (record { parts = refl; rest_fits = IsBytes-rest 0 bytes fits }, tt)
place_takes (suc zero ∷ bytes) x fits e =
    let b = bind_ok (septets_at bytes) _ x e in
    let t = reads_septets.takes bytes b.0 (IsBytes-rest 1 bytes fits) b.1 in
    let u : UnitsValue = record { is_wide = false; numbers = b.0.0 } in
    let made : Option UnitsValue × List ℕ = (Some u, b.0.1) in
    let took : Takes (1 ∷ bytes) (numbers false b.0.0) b.0.1 = record { parts = ap (λ (w : List ℕ). 1 ∷ w) t.0.parts; rest_fits = t.0.rest_fits } in
    let fit : UnitsFit u = record { count = t.1.0; each = t.1.1 } in
    subst (λ (y : Option UnitsValue × List ℕ). Takes (1 ∷ bytes) (place y.0) y.1 × PlaceFits y.0) (ok_is made x b.2) (took, fit)
place_takes (suc (suc zero) ∷ bytes) x fits e =
    let b = bind_ok (wide_at bytes) _ x e in
    let t = reads_wide.takes bytes b.0 (IsBytes-rest 2 bytes fits) b.1 in
    let u : UnitsValue = record { is_wide = true; numbers = b.0.0 } in
    let made : Option UnitsValue × List ℕ = (Some u, b.0.1) in
    let took : Takes (2 ∷ bytes) (numbers true b.0.0) b.0.1 = record { parts = ap (λ (w : List ℕ). 2 ∷ w) t.0.parts; rest_fits = t.0.rest_fits } in
    let fit : UnitsFit u = record { count = t.1.0; each = t.1.1 } in
    subst (λ (y : Option UnitsValue × List ℕ). Takes (2 ∷ bytes) (place y.0) y.1 × PlaceFits y.0) (ok_is made x b.2) (took, fit)
place_takes (suc (suc (suc b)) ∷ bytes) x fits e = absurd cc

units_again : (is_wide : Bool) (ns rest : List ℕ) → NumbersFit is_wide ns → place_at (numbers is_wide ns ++ rest) ≡ Ok (Some (record { is_wide = is_wide; numbers = ns }), rest)
unfolding place_at
units_again false ns rest fits = rw (reads_septets.again ns rest fits) refl
units_again true ns rest fits = rw (reads_wide.again ns rest fits) refl

place_again : (p : Option UnitsValue) (rest : List ℕ) → PlaceFits p → place_at (place p ++ rest) ≡ Ok (p, rest)
unfolding place_at
place_again None rest fits = refl
place_again (Some u) rest fits = units_again u.is_wide u.numbers rest (fits.count, fits.each)

reads_place : Reads place_at place PlaceFits
reads_place = record { takes = place_takes; again = place_again }

-- ---- sets

-- all of what a set fits in but that it is open
record AnySetFits (s : SetValue) : Type 0 where
  pub key : KeyFits s.key
  pub moment : s.moment < 2 ^ 64
  pub opening : s.opening < 2 ^ 64
  pub count : length s.places ≡ maximum_of s.key.message
  pub places : AllByRecursion PlaceFits s.places

any_set_takes : (bytes : List ℕ) (x : SetValue × List ℕ) → IsBytes bytes → any_set_at bytes ≡ Ok x → Takes bytes (set x.0) x.1 × AnySetFits x.0
unfolding any_set_at
any_set_takes bytes x fits e =
    let a = bind_ok (key_at bytes) _ x e in
    let b = bind_ok (number_at w64 a.0.1) _ x a.2 in
    let d = bind_ok (number_at w64 b.0.1) _ x b.2 in
    let c = bind_ok (items_at place_at (maximum_of a.0.0.message) d.0.1) _ x d.2 in
    let t0 = reads_key.takes bytes a.0 fits a.1 in
    let t1 = reads_eight.takes a.0.1 b.0 t0.0.rest_fits b.1 in
    let t2 = reads_eight.takes b.0.1 d.0 t1.0.rest_fits d.1 in
    let t3 = items_take place_at place PlaceFits reads_place (maximum_of a.0.0.message) d.0.1 c.0 t2.0.rest_fits c.1 in
    let e01 = Takes-then bytes (key a.0.0) a.0.1 (eight b.0.0) b.0.1 t0.0 t1.0 in
    let e02 = Takes-then bytes (key a.0.0 ++ eight b.0.0) b.0.1 (eight d.0.0) d.0.1 e01 t2.0 in
    let e03 = Takes-then bytes (key a.0.0 ++ eight b.0.0 ++ eight d.0.0) d.0.1 (flat_map place c.0.0) c.0.1 e02 t3.0 in
    let made : SetValue × List ℕ = (record { key = a.0.0; moment = b.0.0; opening = d.0.0; places = c.0.0 }, c.0.1) in
    subst (λ (y : SetValue × List ℕ). Takes bytes (set y.0) y.1 × AnySetFits y.0) (ok_is made x c.2) (e03, record { key = t0.1; moment = t1.1; opening = t2.1; count = t3.1; places = t3.2 })

any_set_again : (s : SetValue) (rest : List ℕ) → AnySetFits s → any_set_at (set s ++ rest) ≡ Ok (s, rest)
unfolding any_set_at
any_set_again s rest fits =
    let r3 : List ℕ = flat_map place s.places ++ rest in
    let r2 : List ℕ = eight s.opening ++ r3 in
    let r1 : List ℕ = eight s.moment ++ r2 in
    let places : items_at place_at (maximum_of s.key.message) r3 ≡ Ok (s.places, rest) = subst (λ (n : ℕ). items_at place_at n r3 ≡ Ok (s.places, rest)) fits.count (items_again place_at place PlaceFits reads_place s.places rest fits.places) in
    ap any_set_at (append_assoc (front_of_set s.key s.moment s.opening) (flat_map place s.places) rest ∙ regroup3 (key s.key) (eight s.moment) (eight s.opening) r3)
    ∙ rw (reads_key.again s.key r1 fits.key, reads_eight.again s.moment r2 fits.moment, reads_eight.again s.opening r3 fits.opening, places) refl

pub reads_set : Reads set_at set SetFits
reads_set = reads_as set_at set (λ s. AnySetFits s × (has_open_places s ≡ true)) SetFits
    (λ s h. record { key = h.0.key; moment = h.0.moment; opening = h.0.opening; count = h.0.count; places = h.0.places; is_open = h.1 })
    (λ s h. (record { key = h.key; moment = h.moment; opening = h.opening; count = h.count; places = h.places }, h.is_open))
    (reads_tested has_open_places NotOpen any_set_at set AnySetFits (record { takes = any_set_takes; again = any_set_again }))

-- ---- remembered keys

remembered_takes : (bytes : List ℕ) (x : Remembered × List ℕ) → IsBytes bytes → remembered_at bytes ≡ Ok x → Takes bytes (remembered x.0) x.1 × RememberedFits x.0
unfolding remembered_at
remembered_takes bytes x fits e =
    let a = bind_ok (key_at bytes) _ x e in
    let b = bind_ok (number_at w64 a.0.1) _ x a.2 in
    let t0 = reads_key.takes bytes a.0 fits a.1 in
    let t1 = reads_eight.takes a.0.1 b.0 t0.0.rest_fits b.1 in
    let e01 = Takes-then bytes (key a.0.0) a.0.1 (eight b.0.0) b.0.1 t0.0 t1.0 in
    let made : Remembered × List ℕ = (record { key = a.0.0; moment = b.0.0 }, b.0.1) in
    subst (λ (y : Remembered × List ℕ). Takes bytes (remembered y.0) y.1 × RememberedFits y.0) (ok_is made x b.2) (e01, record { key = t0.1; moment = t1.1 })

remembered_again : (r : Remembered) (rest : List ℕ) → RememberedFits r → remembered_at (remembered r ++ rest) ≡ Ok (r, rest)
unfolding remembered_at
remembered_again r rest fits =
    ap remembered_at (append_assoc (key r.key) (eight r.moment) rest)
    ∙ rw (reads_key.again r.key (eight r.moment ++ rest) fits.key, reads_eight.again r.moment rest fits.moment) refl

pub reads_remembered : Reads remembered_at remembered RememberedFits
reads_remembered = record { takes = remembered_takes; again = remembered_again }
