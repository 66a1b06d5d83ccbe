-- Joiners that are saved as one are one, but for the numbers of openings.
use Rattle.std.proofs.Common.{◌≡◌, ℕ, zero, suc, ◌+◌, ◌<◌, ◌≤◌, Bool, true, false, cond, eqb, List, [], ◌∷◌, ◌++◌, map, length, Option, Some, None, option_map, IfSome, refl, sym, ap, subst, ◌∙◌, arith, length-append}
use Rattle.std.proofs.lemmas.Bool.{ne_eqb, eq-eqb, eqb-true, eqb-false}
use Rattle.std.proofs.lemmas.List.{append-nil}
use Rattle.std.specs.List.{AllByRecursion}
use Rattle.sms_field.specs.declared.fault.FieldFault.TheVariants.{Short}
use Rattle.sms_field.specs.Address.{address, address_octets}
use Rattle.sms_field.specs.Address.Value.{AddressValue, HasSpelling}
use Rattle.sms_field.specs.Reading.{Reads}
use Rattle.sms_field.specs.Inside.AddressLaws.{address_lawful}
use Rattle.sms_field.specs.Inside.AddressSpelling.{address_again, address_are_octets}
use Rattle.sms_field.specs.Inside.ReadingLaws.{one_reading}
use Rattle.sms_tpdu.specs.declared.user_data.concat.Width.{Width}
use Rattle.sms_tpdu.specs.declared.user_data.concat.Width.TheVariants as widths
use Rattle.sms_join.specs.declared.key.Key.{Key}
use Rattle.sms_join.specs.declared.key.Key.TheVariants.{Single, Segmented, SingleTo, SegmentedTo}
use Rattle.sms_join.specs.declared.gateway_limits.Alone.{Alone}
use Rattle.sms_join.specs.declared.gateway_limits.Alone.TheVariants.{Remembered, Passed}
use Rattle.sms_join.specs.declared.units.Units.{Units}
use Rattle.sms_join.specs.declared.units.Units.TheVariants.{Gsm, Ucs2}
use Rattle.sms_join.specs.Key.{origin_of, recipient_of, maximum_of}
use Rattle.sms_join.specs.OpenSets.{SetValue, IsSet, AreOpen, Rises, units_for, pieces_in, all_pieces}
use Rattle.sms_join.specs.OpenSets.Places.{filled, filled_from}
use Rattle.sms_join.specs.Piece.{Piece}
use Rattle.sms_join.specs.Gateway.Value.{LimitsValue, GatewayValue}
use Rattle.sms_saved.specs.declared.state.Key.{Key as SavedKey}
use Rattle.sms_saved.specs.declared.state.Limits.{Limits}
use Rattle.sms_saved.specs.declared.state.Remembered.{Remembered as SavedFinishing}
use Rattle.sms_saved.specs.Value.{UnitsValue, SetValue as SavedSet}
use Rattle.sms_keep.specs.Saved.{saved, saved_key, saved_message, saved_width, saved_units, saved_set, saved_limits, saved_finishings, places_from, passes}
use Rattle.sms_keep.specs.Held.{IsJoiner, HoldsAs, KeyIsSpelled, unnumbered, unturned, AreAlike}

-- ---- addresses and keys

pub reads_itself : (a : AddressValue) (octets : List ℕ) → HasSpelling a → octets ≡ address_octets a → Reads address a octets (length octets)
reads_itself a octets h e =
    record {
      octets = octets;
      rest = [];
      parts = sym (append-nil octets);
      used_is = refl;
      read = subst (λ (o : List ℕ). address.reads a o []) (sym e) (address_again a [] h);
    }

one_address : (a b : AddressValue) → HasSpelling a → HasSpelling b → address_octets a ≡ address_octets b → a ≡ b
one_address a b h k e =
    (one_reading address Short address_lawful b a (address_octets a) (length (address_octets a)) (length (address_octets a)) (address_are_octets a h)
    (reads_itself b (address_octets a) k e) (reads_itself a (address_octets a) h refl)).0

one_width : (w v : Width) → saved_width w ≡ saved_width v → w ≡ v
one_width widths.Eight widths.Eight e = refl
one_width widths.Sixteen widths.Sixteen e = refl
one_width widths.Eight widths.Sixteen e = absurd cc
one_width widths.Sixteen widths.Eight e = absurd cc

one_recipient : (r q : Option AddressValue) → IfSome r HasSpelling → IfSome q HasSpelling → option_map address_octets r ≡ option_map address_octets q → r ≡ q
one_recipient None None h k e = refl
one_recipient (Some r) None h k e = absurd cc
one_recipient None (Some q) h k e = absurd cc
one_recipient (Some r) (Some q) h k e =
    let o : address_octets r ≡ address_octets q = cc in
    ap Some (one_address r q h k o)

-- keys by their parts
one_of_parts : (k l : Key) → origin_of k ≡ origin_of l → recipient_of k ≡ recipient_of l → saved_message k ≡ saved_message l → k ≡ l
one_of_parts (Single a s) (Single b t) o r m = let y : s ≡ t = cc in cc
one_of_parts (SingleTo x a s) (SingleTo z b t) o r m = let y : s ≡ t = cc in cc
one_of_parts (Segmented a w f u) (Segmented b v g n) o r m =
    let same : saved_width w ≡ saved_width v = cc in
    let y : w ≡ v = one_width w v same in
    let x : f ≡ g = cc in
    let z : u ≡ n = cc in
    cc
one_of_parts (SegmentedTo p a w f u) (SegmentedTo q b v g n) o r m =
    let same : saved_width w ≡ saved_width v = cc in
    let y : w ≡ v = one_width w v same in
    let x : f ≡ g = cc in
    let z : u ≡ n = cc in
    cc
one_of_parts _ _ o r m = absurd cc

pub one_key : (k l : Key) → KeyIsSpelled k → KeyIsSpelled l → saved_key k ≡ saved_key l → k ≡ l
one_key k l h j e =
    one_of_parts k l
    (one_address (origin_of k) (origin_of l) h.origin j.origin (ap (λ (x : SavedKey). x.origin) e))
    (one_recipient (recipient_of k) (recipient_of l) h.recipient j.recipient (ap (λ (x : SavedKey). x.recipient) e))
    (ap (λ (x : SavedKey). x.message) e)

-- ---- units

one_units : (u v : Units) → saved_units u ≡ saved_units v → u ≡ v
one_units (Gsm a) (Gsm b) e = ap Gsm (ap (λ (x : UnitsValue). x.numbers) e)
one_units (Ucs2 a) (Ucs2 b) e = ap Ucs2 (ap (λ (x : UnitsValue). x.numbers) e)
one_units (Gsm a) (Ucs2 b) e = absurd (let h : false ≡ true = ap (λ (x : UnitsValue). x.is_wide) e in cc)
one_units (Ucs2 a) (Gsm b) e = absurd (let h : true ≡ false = ap (λ (x : UnitsValue). x.is_wide) e in cc)

one_place : (p q : Option Units) → option_map saved_units p ≡ option_map saved_units q → p ≡ q
one_place None None e = refl
one_place (Some u) None e = absurd cc
one_place None (Some v) e = absurd cc
one_place (Some u) (Some v) e = let h : saved_units u ≡ saved_units v = cc in ap Some (one_units u v h)

one_places : (ps qs : List (Option Units)) → map (option_map saved_units) ps ≡ map (option_map saved_units) qs → ps ≡ qs
one_places [] [] e = refl
one_places [] (q ∷ qs) e = absurd cc
one_places (p ∷ ps) [] e = absurd cc
one_places (p ∷ ps) (q ∷ qs) e =
    let h : option_map saved_units p ≡ option_map saved_units q = cc in
    let t : map (option_map saved_units) ps ≡ map (option_map saved_units) qs = cc in
    ap (λ x. x ∷ ps) (one_place p q h) ∙ ap (λ xs. q ∷ xs) (one_places ps qs t)

-- ---- a set by its places

-- the units of so many sequences from this one on
abbrev pub looks : (ℕ → Option Units) → ℕ → ℕ → List (Option Units)
looks f n zero = []
looks f n (suc count) = f n ∷ looks f (suc n) count

pub places_look : (s : SetValue) (n count : ℕ) → places_from n count s ≡ map (option_map saved_units) (looks (λ k. units_for k s.sequences s.units) n count)
places_look s n zero = refl
places_look s n (suc count) = ap (λ ps. option_map saved_units (units_for n s.sequences s.units) ∷ ps) (places_look s (suc n) count)

-- numbers that rise from this one on, below a limit
abbrev Climbs : ℕ → List ℕ → ℕ → Type 0
Climbs n [] high = Unit {0}
Climbs n (q ∷ qs) high = (n ≤ q) × (q < high) × Climbs (suc q) qs high

climbs : (low : ℕ) (qs : List ℕ) (high : ℕ) → Rises low qs high → Climbs (suc low) qs (suc high)
climbs low [] high h = tt
climbs low (q ∷ qs) high h = (omega (arith, h.0), least q qs high h.1, climbs q qs high h.1) where
  least : (n : ℕ) (ns : List ℕ) (top : ℕ) → Rises n ns top → n < suc top
  least n [] top h = omega (arith, h)
  least n (m ∷ ns) top h = let l = least m ns top h.1 in omega (arith, l, h.0)

above_less : (n m : ℕ) (qs : List ℕ) (high : ℕ) → m ≤ n → Climbs n qs high → Climbs m qs high
above_less n m [] high l h = tt
above_less n m (q ∷ qs) high l h = (omega (arith, l, h.0), h.1, h.2)

none_at : (n m : ℕ) (qs : List ℕ) (us : List Units) (high : ℕ) → n < m → Climbs m qs high → units_for n qs us ≡ None
none_at n m [] us high l h = refl
none_at n m (q ∷ qs) [] high l h = refl
none_at n m (q ∷ qs) (u ∷ us) high l h =
    let e : eqb q n ≡ false = ne_eqb q n (λ same. omega (arith, same, l, h.0)) in
    ap (λ (b : Bool). cond b (Some u) (units_for n qs us)) e ∙ none_at n (suc q) qs us high (omega (arith, l, h.0)) h.2

skips : (k q : ℕ) (qs : List ℕ) (u : Units) (us : List Units) → q < k → units_for k (q ∷ qs) (u ∷ us) ≡ units_for k qs us
skips k q qs u us l = ap (λ (b : Bool). cond b (Some u) (units_for k qs us)) (ne_eqb q k (λ same. omega (arith, same, l)))

finds : (q : ℕ) (qs : List ℕ) (u : Units) (us : List Units) → units_for q (q ∷ qs) (u ∷ us) ≡ Some u
finds q qs u us = ap (λ (b : Bool). cond b (Some u) (units_for q qs us)) (eq-eqb q q refl)

pub record IsFilled (n : ℕ) (ps : List (Option Units)) (qs : List ℕ) (us : List Units) : Type 0 where
  pub sequences : filled_from n ps ≡ qs
  pub units : filled ps ≡ us

filled_none : (n : ℕ) (p : Option Units) (ps : List (Option Units)) (qs : List ℕ) (us : List Units) → p ≡ None → IsFilled (suc n) ps qs us → IsFilled n (p ∷ ps) qs us
filled_none n None ps qs us e h = record { sequences = h.sequences; units = h.units }
filled_none n (Some u) ps qs us e h = absurd cc

filled_some : (n : ℕ) (p : Option Units) (ps : List (Option Units)) (qs : List ℕ) (u : Units) (us : List Units) → p ≡ Some u → IsFilled (suc n) ps qs us → IsFilled n (p ∷ ps) (n ∷ qs) (u ∷ us)
filled_some n None ps qs u us e h = absurd cc
filled_some n (Some v) ps qs u us e h =
    let same : v ≡ u = cc in
    record { sequences = ap (λ l. n ∷ l) h.sequences; units = ap (λ x. x ∷ filled ps) same ∙ ap (λ l. u ∷ l) h.units }

either : {A : Type 0} (b : Bool) → (b ≡ true → A) → (b ≡ false → A) → A
either true f g = f refl
either false f g = g refl

looked : (f : ℕ → Option Units) (n count : ℕ) (qs : List ℕ) (us : List Units)
    → ((k : ℕ) → n ≤ k → f k ≡ units_for k qs us) → Climbs n qs (n + count) → length us ≡ length qs
    → IsFilled n (looks f n count) qs us
looked f n zero [] [] h c l = record { sequences = refl; units = refl }
looked f n zero [] (u ∷ us) h c l = absurd (omega (arith, l))
looked f n zero (q ∷ qs) us h c l = absurd (omega (arith, c.0, c.1))
looked f n (suc count) [] (u ∷ us) h c l = absurd (omega (arith, l))
looked f n (suc count) [] [] h c l =
    filled_none n (f n) (looks f (suc n) count) [] [] (h n (omega arith))
    (looked f (suc n) count [] [] (λ k b. h k (omega (arith, b))) tt refl)
looked f n (suc count) (q ∷ qs) [] h c l = absurd (omega (arith, l))
looked f n (suc count) (q ∷ qs) (u ∷ us) h c l =
    let limit : n + suc count ≡ suc n + count = omega arith in
    let first : eqb q n ≡ true → IsFilled n (looks f n (suc count)) (q ∷ qs) (u ∷ us) = λ e.
    let same : q ≡ n = eqb-true q n e in
    let rest = looked f (suc n) count qs us
    (λ k b. h k (omega (arith, b)) ∙ skips k q qs u us (omega (arith, b, same)))
    (subst (λ m. Climbs (suc n) qs m) limit (subst (λ m. Climbs (suc m) qs (n + suc count)) same c.2))
    (omega (arith, l)) in
    let here : f n ≡ Some u = h n (omega arith) ∙ subst (λ m. units_for m (q ∷ qs) (u ∷ us) ≡ Some u) same (finds q qs u us) in
    subst (λ m. IsFilled n (looks f n (suc count)) (m ∷ qs) (u ∷ us)) (sym same) (filled_some n (f n) (looks f (suc n) count) qs u us here rest) in
    let later : eqb q n ≡ false → IsFilled n (looks f n (suc count)) (q ∷ qs) (u ∷ us) = λ e.
    let other = eqb-false q n e in
    let more : suc n ≤ q = omega (arith, other, c.0) in
    let there : Climbs (suc n) (q ∷ qs) (suc n + count) = (more, omega (arith, c.1), subst (λ m. Climbs (suc q) qs m) limit c.2) in
    filled_none n (f n) (looks f (suc n) count) (q ∷ qs) (u ∷ us)
    (h n (omega arith) ∙ none_at n (suc n) (q ∷ qs) (u ∷ us) (suc n + count) (omega arith) there)
    (looked f (suc n) count (q ∷ qs) (u ∷ us) (λ k b. h k (omega (arith, b))) there l) in
    either (eqb q n) first later

pub set_looked : (s : SetValue) → IsSet s → IsFilled 1 (looks (λ k. units_for k s.sequences s.units) 1 (maximum_of s.key)) s.sequences s.units
set_looked s h =
    let limit : suc (maximum_of s.key) ≡ 1 + maximum_of s.key = omega arith in
    looked (λ k. units_for k s.sequences s.units) 1 (maximum_of s.key) s.sequences s.units (λ k b. refl)
    (subst (λ m. Climbs 1 s.sequences m) limit (climbs 0 s.sequences (maximum_of s.key) h.rising)) h.as_many

pub one_set : (s t : SetValue) → IsSet s → IsSet t → KeyIsSpelled s.key → KeyIsSpelled t.key → unnumbered (saved_set s) ≡ unnumbered (saved_set t) → unturned s ≡ unturned t
one_set s t a b h k e =
    let key : s.key ≡ t.key = one_key s.key t.key h k (ap (λ (x : SavedSet). x.key) e) in
    let opened : s.opened ≡ t.opened = ap (λ (x : SavedSet). x.moment) e in
    let S : List (Option Units) = looks (λ k. units_for k s.sequences s.units) 1 (maximum_of s.key) in
    let T : List (Option Units) = looks (λ k. units_for k t.sequences t.units) 1 (maximum_of t.key) in
    let places : S ≡ T =
    one_places S T
    (sym (places_look s 1 (maximum_of s.key)) ∙ (ap (λ (x : SavedSet). x.places) e ∙ places_look t 1 (maximum_of t.key))) in
    let sequences : s.sequences ≡ t.sequences = sym (set_looked s a).sequences ∙ (ap (filled_from 1) places ∙ (set_looked t b).sequences) in
    let units : s.units ≡ t.units = sym (set_looked s a).units ∙ (ap filled places ∙ (set_looked t b).units) in
    λ i. record { key = key i; opened = opened i; turn = 0; sequences = sequences i; units = units i }

one_told : (ss ts : List SetValue) → AreOpen ss → AreOpen ts → AllByRecursion (λ s. KeyIsSpelled s.key) ss → AllByRecursion (λ s. KeyIsSpelled s.key) ts
    → map (λ t. unnumbered (saved_set t)) ss ≡ map (λ t. unnumbered (saved_set t)) ts → map unturned ss ≡ map unturned ts
one_told [] [] a b h k e = refl
one_told [] (t ∷ ts) a b h k e = absurd cc
one_told (s ∷ ss) [] a b h k e = absurd cc
one_told (s ∷ ss) (t ∷ ts) a b h k e =
    let first : unnumbered (saved_set s) ≡ unnumbered (saved_set t) = cc in
    let others : map (λ t. unnumbered (saved_set t)) ss ≡ map (λ t. unnumbered (saved_set t)) ts = cc in
    ap (λ x. x ∷ map unturned ss) (one_set s t a.0.is_set b.0.is_set h.0 k.0 first)
    ∙ ap (λ xs. unturned t ∷ xs) (one_told ss ts a.2 b.2 h.1 k.1 others)

unturned_pieces : (ss : List SetValue) → all_pieces (map unturned ss) ≡ all_pieces ss
unturned_pieces [] = refl
unturned_pieces (s ∷ ss) = ap (λ (ps : List Piece). pieces_in s ++ ps) (unturned_pieces ss)

-- ---- remembered keys

last_parts : (xs ys : List SavedFinishing) (x y : SavedFinishing) → xs ++ x ∷ [] ≡ ys ++ y ∷ [] → (xs ≡ ys) × (x ≡ y)
last_parts [] [] x y e = let h : x ≡ y = cc in (refl, h)
last_parts [] (z ∷ ys) x y e =
    let n = ap length e in
    let m = length-append ys (y ∷ []) in
    absurd (omega (arith, n, m))
last_parts (z ∷ xs) [] x y e =
    let n = ap length e in
    let m = length-append xs (x ∷ []) in
    absurd (omega (arith, n, m))
last_parts (z ∷ xs) (w ∷ ys) x y e =
    let first : z ≡ w = cc in
    let others : xs ++ x ∷ [] ≡ ys ++ y ∷ [] = cc in
    let h = last_parts xs ys x y others in
    (ap (λ v. v ∷ xs) first ∙ ap (λ l. w ∷ l) h.0, h.1)

none_more : (xs : List SavedFinishing) (x : SavedFinishing) → [] ≡ xs ++ x ∷ [] → ⊥
none_more xs x e =
    let n = ap length e in
    let m = length-append xs (x ∷ []) in
    omega (arith, n, m)

one_finished : (ks ls : List Key) (ms ns : List ℕ) → length ms ≡ length ks → length ns ≡ length ls → AllByRecursion KeyIsSpelled ks → AllByRecursion KeyIsSpelled ls
    → saved_finishings ks ms ≡ saved_finishings ls ns → (ks ≡ ls) × (ms ≡ ns)
one_finished [] [] [] [] a b h k e = (refl, refl)
one_finished [] ls (m ∷ ms) ns a b h k e = absurd (omega (arith, a))
one_finished ks [] ms (n ∷ ns) a b h k e = absurd (omega (arith, b))
one_finished (x ∷ ks) ls [] ns a b h k e = absurd (omega (arith, a))
one_finished ks (y ∷ ls) ms [] a b h k e = absurd (omega (arith, b))
one_finished [] (y ∷ ls) [] (n ∷ ns) a b h k e = absurd (none_more (saved_finishings ls ns) (record { key = saved_key y; moment = n }) e)
one_finished (x ∷ ks) [] (m ∷ ms) [] a b h k e = absurd (none_more (saved_finishings ks ms) (record { key = saved_key x; moment = m }) (sym e))
one_finished (x ∷ ks) (y ∷ ls) (m ∷ ms) (n ∷ ns) a b h k e =
    let parts = last_parts (saved_finishings ks ms) (saved_finishings ls ns) (record { key = saved_key x; moment = m }) (record { key = saved_key y; moment = n }) e in
    let others = one_finished ks ls ms ns (omega (arith, a)) (omega (arith, b)) h.1 k.1 parts.0 in
    let key : x ≡ y = one_key x y h.0 k.0 (ap (λ (r : SavedFinishing). r.key) parts.1) in
    let moment : m ≡ n = ap (λ (r : SavedFinishing). r.moment) parts.1 in
    (ap (λ v. v ∷ ks) key ∙ ap (λ l. y ∷ l) others.0, ap (λ v. v ∷ ms) moment ∙ ap (λ l. n ∷ l) others.1)

-- ---- all

one_alone : (a b : Alone) → passes a ≡ passes b → a ≡ b
one_alone Remembered Remembered e = refl
one_alone Passed Passed e = refl
one_alone Remembered Passed e = absurd cc
one_alone Passed Remembered e = absurd cc

one_limits : (a b : LimitsValue) → saved_limits a ≡ saved_limits b → a ≡ b
one_limits a b e =
    let sets : a.open_max ≡ b.open_max = ap (λ (l : Limits). l.sets) e in
    let keys : a.remembered ≡ b.remembered = ap (λ (l : Limits). l.keys) e in
    let alone : a.alone ≡ b.alone = one_alone a.alone b.alone (ap (λ (l : Limits). l.passes_singles) e) in
    let longest : a.open_for ≡ b.open_for = ap (λ (l : Limits). l.age_of_sets) e in
    let remember : a.remember_for ≡ b.remember_for = ap (λ (l : Limits). l.age_of_keys) e in
    λ i. record { open_max = sets i; remembered = keys i; alone = alone i; open_for = longest i; remember_for = remember i }

-- a joiner that holds what another is saved as is alike
pub one_joiner : (g h : GatewayValue) (taken : ℕ) → IsJoiner g → HoldsAs (saved g taken) h → AreAlike h g
one_joiner g h taken own held =
    let other = held.is_joiner in
    let unnumber : map (λ t. unnumbered (saved_set t)) h.told ≡ map (λ t. unnumbered (saved_set t)) g.told = held.sets ∙ each g.told in
    let told = one_told h.told g.told other.are_open own.are_open other.sets own.sets unnumber in
    let keys = one_finished h.holds.finished g.holds.finished h.finishings g.finishings other.moments own.moments other.keys own.keys held.keys in
    let kept : h.holds.kept ≡ g.holds.kept =
    other.pieces ∙ (sym (unturned_pieces h.told) ∙ (ap all_pieces told ∙ (unturned_pieces g.told ∙ sym own.pieces))) in
    let finished : h.holds.finished ≡ g.holds.finished = keys.0 in
    record {
      limits = one_limits h.limits g.limits held.limits;
      holds = λ i. record { kept = kept i; finished = finished i };
      told = told;
      finishings = keys.1;
    } where
      each : (ss : List SetValue) → map unnumbered (map saved_set ss) ≡ map (λ t. unnumbered (saved_set t)) ss
      each [] = refl
      each (s ∷ ss) = ap (λ xs. unnumbered (saved_set s) ∷ xs) (each ss)
