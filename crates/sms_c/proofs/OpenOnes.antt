-- Open sets as C sees them: which is found, and which of their sequences have come.
use Rattle.std.proofs.Common.{◌≡◌, ◌≢◌, ℕ, ◌+◌, ◌*◌, ◌/◌, ◌%◌, ◌^◌, ◌<◌, ◌≤◌, Bool, true, false, cond, ◌||◌, eqb, leb, ltb, List, [], ◌∷◌, length, get_or, Option, None, Some, replicate, bit_or, w8, refl, sym, ap, subst, ◌∙◌, Global, arith}
use Rattle.std.proofs.Math.ListN.{set}
use Rattle.std.proofs.lemmas.Bool.{eqb-true, eqb-false, eq-eqb, ne_eqb, leb-true, leb-false, ltb-true, ltb-false}
use Rattle.std.proofs.lemmas.Grind.{get_or-set_at}
use Rattle.std.proofs.lemmas.List.{get_or-set_same, get_or-set_other, get_or-replicate, get_or_past, length-set, length-replicate}
use Rattle.std.proofs.lemmas.Nat.Bits.{bit_at-zero, bit_at_set_same, bit_at_set_other}
use Rattle.std.specs.Int.{bit_at}
use Rattle.std.specs.Prelude.{String}
use Rattle.std.specs.Str.{chars}
use Rattle.std.specs.String.{string_bytes}
use Rattle.sms_field.specs.Address.Text.{address_text}
use Rattle.sms_field.specs.Address.Value.{AddressValue}
use Rattle.sms_join.specs.Key.{maximum_of, origin_of, recipient_of}
use Rattle.sms_join.specs.OpenSets.{SetValue, IsOpen, AreOpen, Rises, is_in}
use Rattle.sms_join.specs.OpenSets.Told.{AreAbove, AreFor, RiseInTurn, first_from}
use Rattle.sms_join.specs.declared.key.Key.TheVariants.{Single}
use Rattle.sms_c.specs.OpenMessages.{opened_as, ShowsSequences, OfOrigin}
use Rattle.sms_c.specs.Parts.{bit}
use Rattle.sms_c.proofs.Texts.{of_text}

-- ---- which is found

pub first_is_open : (n : ℕ) (ss : List SetValue) (s : SetValue) → AreOpen ss → first_from n ss ≡ Some s → IsOpen s
first_is_open n [] s are is = absurd cc
first_is_open n (t ∷ ts) s are is = go (leb n t.turn) is (first_is_open n ts s are.2)
  where
    go : (b : Bool) → cond b (Some t) (first_from n ts) ≡ Some s → (first_from n ts ≡ Some s → IsOpen s) → IsOpen s
    go true same on = let one : t ≡ s = cc in subst IsOpen one are.0
    go false same on = on same

pub first_is_for : (r : Option AddressValue) (n : ℕ) (ss : List SetValue) (s : SetValue) → AreFor r ss → first_from n ss ≡ Some s → recipient_of s.key ≡ r
first_is_for r n [] s are is = absurd cc
first_is_for r n (t ∷ ts) s are is = go (leb n t.turn) is (first_is_for r n ts s are.1)
  where
    go : (b : Bool) → cond b (Some t) (first_from n ts) ≡ Some s → (first_from n ts ≡ Some s → recipient_of s.key ≡ r) → recipient_of s.key ≡ r
    go true same on = let one : t ≡ s = cc in subst (λ (x : SetValue). recipient_of x.key ≡ r) one are.0
    go false same on = on same

pub not_single : (s : SetValue) (origin : AddressValue) (stamp : List ℕ) → IsOpen s → s.key ≡ Single origin stamp → ⊥
not_single s origin stamp part is = let one : maximum_of s.key ≡ 1 = ap maximum_of is in omega (arith, part.some, part.part, one)

above_none : (n m : ℕ) (ss : List SetValue) → AreAbove m ss → n ≤ m → opened_as n ss ≡ None
above_none n m [] above few = refl
above_none n m (s ∷ ss) above few =
    ap (λ (b : Bool). cond b (Some s) (opened_as n ss)) (ne_eqb s.turn n (λ e. let l = above.0 in omega arith))
    ∙ above_none n m ss above.1 few

pub none_from : (n : ℕ) (ss : List SetValue) → first_from n ss ≡ None → opened_as n ss ≡ None
none_from n [] is = refl
none_from n (s ∷ ss) is = go (leb n s.turn) refl is (none_from n ss)
  where
    go : (b : Bool) → leb n s.turn ≡ b → cond b (Some s) (first_from n ss) ≡ None → (first_from n ss ≡ None → opened_as n ss ≡ None) → opened_as n (s ∷ ss) ≡ None
    go true e same on = absurd cc
    go false e same on =
        let l = leb-false n s.turn e in
        ap (λ (b : Bool). cond b (Some s) (opened_as n ss)) (ne_eqb s.turn n (λ f. omega arith)) ∙ on same

pub first_there : (n : ℕ) (ss : List SetValue) (s : SetValue) → first_from n ss ≡ Some s → s.turn ≡ n → opened_as n ss ≡ Some s
first_there n [] s is turn = absurd cc
first_there n (t ∷ ts) s is turn = go (leb n t.turn) refl is (λ same. first_there n ts s same turn)
  where
    go : (b : Bool) → leb n t.turn ≡ b → cond b (Some t) (first_from n ts) ≡ Some s → (first_from n ts ≡ Some s → opened_as n ts ≡ Some s) → opened_as n (t ∷ ts) ≡ Some s
    go true e same on =
        let one : t ≡ s = cc in
        let own : t.turn ≡ n = ap (λ (x : SetValue). x.turn) one ∙ turn in
        ap (λ (b : Bool). cond b (Some t) (opened_as n ts)) (eq-eqb t.turn n own) ∙ ap (λ (x : SetValue). Some x) one
    go false e same on =
        let l = leb-false n t.turn e in
        ap (λ (b : Bool). cond b (Some t) (opened_as n ts)) (ne_eqb t.turn n (λ f. omega arith)) ∙ on same

pub another_first : (n : ℕ) (ss : List SetValue) (s : SetValue) → RiseInTurn ss → first_from n ss ≡ Some s → (s.turn ≡ n → ⊥) → opened_as n ss ≡ None
another_first n [] s rise is other = refl
another_first n (t ∷ ts) s rise is other = go (leb n t.turn) refl is (λ same. another_first n ts s rise.1 same other)
  where
    go : (b : Bool) → leb n t.turn ≡ b → cond b (Some t) (first_from n ts) ≡ Some s → (first_from n ts ≡ Some s → opened_as n ts ≡ None) → opened_as n (t ∷ ts) ≡ None
    go true e same on =
        let one : t ≡ s = cc in
        let l = leb-true n t.turn e in
        ap (λ (b : Bool). cond b (Some t) (opened_as n ts)) (ne_eqb t.turn n (λ own. other (sym (ap (λ (x : SetValue). x.turn) one) ∙ own)))
        ∙ above_none n t.turn ts rise.0 l
    go false e same on =
        let l = leb-false n t.turn e in
        ap (λ (b : Bool). cond b (Some t) (opened_as n ts)) (ne_eqb t.turn n (λ f. omega arith)) ∙ on same

pub of_origin : (opening : ℕ) (told : List SetValue) (Out : List ℕ → Type 0) (text : String Global) (octets : List ℕ) → octets ≡ string_bytes text → ((set : SetValue) × (opened_as opening told ≡ Some set) × (chars (string_bytes text) ≡ address_text (origin_of set.key))) → Out octets → OfOrigin opening told Out
of_origin opening told Out text octets e found out =
    record { set = found.0; there = found.1; spelled = of_text (address_text (origin_of found.0.key)) Out text octets e found.2 out }

-- ---- sequences that rise

rises_within : (low : ℕ) (ns : List ℕ) (high : ℕ) → Rises low ns high → low ≤ high
rises_within low [] high rise = rise
rises_within low (n ∷ ns) high rise = let l = rises_within n ns high rise.1 in let k = rise.0 in omega arith

not_below : (low : ℕ) (ns : List ℕ) (high n : ℕ) → Rises low ns high → n ≤ low → is_in n ns ≡ false
not_below low [] high n rise few = refl
not_below low (m ∷ ms) high n rise few =
    let k = rise.0 in
    ap (λ (b : Bool). b || is_in n ms) (ne_eqb m n (λ e. omega arith)) ∙ not_below m ms high n rise.1 (omega arith)

not_above : (low : ℕ) (ns : List ℕ) (high n : ℕ) → Rises low ns high → high < n → is_in n ns ≡ false
not_above low [] high n rise many = refl
not_above low (m ∷ ms) high n rise many =
    let l = rises_within m ms high rise.1 in
    ap (λ (b : Bool). b || is_in n ms) (ne_eqb m n (λ e. omega arith)) ∙ not_above m ms high n rise.1 many

-- ---- a bit each

abbrev pub bit_of : List ℕ → ℕ → ℕ
bit_of come n = bit_at (get_or come (n / 8) 0) (n % 8)

-- the octets with the bit of a sequence
abbrev pub marked : List ℕ → ℕ → List ℕ
marked come s = set come (s / 8) (bit_or (get_or come (s / 8) 0) (1 * 2 ^ (s % 8) % 2 ^ 8))

marks : (come : List ℕ) (s : ℕ) → s / 8 < length come → bit_of (marked come s) s ≡ 1
marks come s l =
    ap (λ (o : ℕ). bit_at o (s % 8)) (get_or-set_same come (s / 8) (bit_or (get_or come (s / 8) 0) (1 * 2 ^ (s % 8) % 2 ^ 8)) 0 l)
    ∙ bit_at_set_same w8 (get_or come (s / 8) 0) (s % 8) (omega arith)

leaves : (come : List ℕ) (s n : ℕ) → (n ≡ s → ⊥) → s / 8 < length come → bit_of (marked come s) n ≡ bit_of come n
leaves come s n other l = go (eqb (n / 8) (s / 8)) refl
  where
    go : (b : Bool) → eqb (n / 8) (s / 8) ≡ b → bit_of (marked come s) n ≡ bit_of come n
    go true e =
        let same : n / 8 ≡ s / 8 = eqb-true (n / 8) (s / 8) e in
        let apart : n % 8 ≢ s % 8 = λ (m : n % 8 ≡ s % 8). other (omega arith) in
        ap (λ (o : ℕ). bit_at o (n % 8)) (get_or-set_at come (s / 8) (n / 8) (bit_or (get_or come (s / 8) 0) (1 * 2 ^ (s % 8) % 2 ^ 8)) 0 same l)
        ∙ bit_at_set_other w8 (get_or come (s / 8) 0) (s % 8) (omega arith) (n % 8) apart
        ∙ ap (λ (i : ℕ). bit_at (get_or come i 0) (n % 8)) (sym same)
    go false e = ap (λ (o : ℕ). bit_at o (n % 8)) (get_or-set_other come (s / 8) (n / 8) (bit_or (get_or come (s / 8) 0) (1 * 2 ^ (s % 8) % 2 ^ 8)) 0 (eqb-false (n / 8) (s / 8) e))

-- the sequences up to one have their bits, and those above it none
pub record AreMarked (sequences : List ℕ) (upto : ℕ) (come : List ℕ) : Type 0 where
  pub room : length come ≡ 32
  pub below : (n : ℕ) → n ≤ upto → bit_of come n ≡ bit (is_in n sequences)
  pub above : (n : ℕ) → upto < n → bit_of come n ≡ 0

zeros : (count i : ℕ) → get_or {A = ℕ} (replicate count 0) i 0 ≡ 0
zeros count i = go (ltb i count) refl
  where
    go : (b : Bool) → ltb i count ≡ b → get_or {A = ℕ} (replicate count 0) i 0 ≡ 0
    go true e = get_or-replicate count i 0 0 (ltb-true i count e)
    go false e = get_or_past (replicate count 0) i 0 (let l = ltb-false i count e in omega (arith, length-replicate {A = ℕ} count 0))

no_bit : (n : ℕ) → bit_of (replicate 32 0) n ≡ 0
no_bit n = ap (λ (o : ℕ). bit_at o (n % 8)) (zeros 32 (n / 8)) ∙ bit_at-zero (n % 8)

pub none_marked : (sequences : List ℕ) (high : ℕ) → Rises 0 sequences high → AreMarked sequences 0 (replicate 32 0)
none_marked sequences high rise = record {
  room = length-replicate {A = ℕ} 32 0;
  below = λ n few. no_bit n ∙ sym (ap bit (not_below 0 sequences high n rise few));
  above = λ n many. no_bit n;
}

one_marked : (sequences : List ℕ) (upto : ℕ) (come : List ℕ) → upto < 255 → is_in (upto + 1) sequences ≡ true → AreMarked sequences upto come → AreMarked sequences (upto + 1) (marked come (upto + 1))
one_marked sequences upto come few there are =
    let l : (upto + 1) / 8 < length come = omega (arith, are.room) in
    record {
      room = length-set come ((upto + 1) / 8) (bit_or (get_or come ((upto + 1) / 8) 0) (1 * 2 ^ ((upto + 1) % 8) % 2 ^ 8)) ∙ are.room;
      below = λ n within. go n within l (eqb n (upto + 1)) refl;
      above = λ n many. leaves come (upto + 1) n (λ e. omega arith) l ∙ are.above n (omega arith);
    }
  where
    go : (n : ℕ) → n ≤ upto + 1 → (upto + 1) / 8 < length come → (b : Bool) → eqb n (upto + 1) ≡ b → bit_of (marked come (upto + 1)) n ≡ bit (is_in n sequences)
    go n within l true e =
        let same : n ≡ upto + 1 = eqb-true n (upto + 1) e in
        ap (bit_of (marked come (upto + 1))) same ∙ marks come (upto + 1) l ∙ sym (ap (λ (m : ℕ). bit (is_in m sequences)) same ∙ ap bit there)
    go n within l false e =
        let other = eqb-false n (upto + 1) e in
        leaves come (upto + 1) n other l ∙ are.below n (omega (arith, other))

-- the same, where the place of the octet is computed apart
pub one_marked_at : (sequences : List ℕ) (upto place : ℕ) (come : List ℕ) → place ≡ (upto + 1) / 8 → upto < 255 → is_in (upto + 1) sequences ≡ true → AreMarked sequences upto come → AreMarked sequences (upto + 1) (set come place (bit_or (get_or come place 0) (1 * 2 ^ ((upto + 1) % 8) % 2 ^ 8)))
one_marked_at sequences upto place come is few there are =
    subst (λ (p : ℕ). AreMarked sequences (upto + 1) (set come p (bit_or (get_or come p 0) (1 * 2 ^ ((upto + 1) % 8) % 2 ^ 8)))) (sym is)
    (one_marked sequences upto come few there are)

pub none_more : (sequences : List ℕ) (upto : ℕ) (come : List ℕ) → is_in (upto + 1) sequences ≡ false → AreMarked sequences upto come → AreMarked sequences (upto + 1) come
none_more sequences upto come none are = record {
  room = are.room;
  below = λ n within. go n within (eqb n (upto + 1)) refl;
  above = λ n many. are.above n (omega arith);
}
  where
    go : (n : ℕ) → n ≤ upto + 1 → (b : Bool) → eqb n (upto + 1) ≡ b → bit_of come n ≡ bit (is_in n sequences)
    go n within true e =
        let same : n ≡ upto + 1 = eqb-true n (upto + 1) e in
        ap (bit_of come) same ∙ are.above (upto + 1) (omega arith) ∙ sym (ap (λ (m : ℕ). bit (is_in m sequences)) same ∙ ap bit none)
    go n within false e =
        let other = eqb-false n (upto + 1) e in
        are.below n (omega (arith, other))

pub all_marked : (sequences : List ℕ) (high : ℕ) (come : List ℕ) → Rises 0 sequences high → AreMarked sequences high come → ShowsSequences sequences come
all_marked sequences high come rise are n small = go (leb n high) refl
  where
    go : (b : Bool) → leb n high ≡ b → bit_of come n ≡ bit (is_in n sequences)
    go true e = are.below n (leb-true n high e)
    go false e = let l = leb-false n high e in are.above n l ∙ sym (ap bit (not_above 0 sequences high n rise l))
