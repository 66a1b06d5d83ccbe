-- What a call of a joiner comes to, by the sets and keys that it holds.
use Rattle.std.proofs.Common.{◌≡◌, ℕ, zero, suc, ◌<◌, ◌≤◌, Bool, true, false, not, eqb, List, [], ◌∷◌, ◌++◌, take, drop, length, slice_get, Option, Some, None, Ok, Err, refl, sym, ap, ◌∙◌, subst, arith}
use Rattle.std.proofs.Math.ListN.{set}
use Rattle.std.proofs.lemmas.Bool.{eqb-false, ne_eqb}
use Rattle.std.proofs.lemmas.List.Quantifiers.{position-Some}
use Rattle.std.proofs.lemmas.Option.{get_or_from_slice_get}
use Rattle.std.specs.List.{remove, swap_remove, position}
use Rattle.std.specs.Str.{chars}
use Rattle.std.specs.String.{string_bytes}
use Rattle.sms_field.specs.Address.Value.{AddressValue}
use Rattle.sms_tpdu.specs.declared.user_data.concat.Concat.{Concat}
use Rattle.sms_join.specs.declared.key.Key.{Key}
use Rattle.sms_join.specs.declared.units.Units.{Units}
use Rattle.sms_join.specs.declared.offer.Offer.TheVariants as offers
use Rattle.sms_join.specs.declared.offer.OfferFault.TheVariants as faults
use Rattle.sms_join.specs.Key.{same_key, maximum_of}
use Rattle.sms_join.specs.Piece.{Piece, piece_to, key_to, size_of}
use Rattle.sms_tpdu.specs.UserData.ConcatenationFound.{IsPlace}
use Rattle.sms_join.specs.Joiner.Sets.{is_open}
use Rattle.sms_join.specs.Joiner.{Joiner, Answer, Repeat, Kept, Finished, TooManyOpen, is_among, is_repeat, answer, offered}
use Rattle.sms_join.specs.Joiner.Same.{IsSame}
use Rattle.sms_join.specs.Inside.LastKeys.{LastKeysValue}
use Rattle.sms_join.specs.Joiner.Value.{JoinerValue}
use Rattle.sms_join.specs.OpenSets.{SetValue, IsOpen, AreOpen, is_in, with_piece}
use Rattle.sms_join.specs.Joiner.Offering.{is_first, SaysAnswer, Says}
use Rattle.sms_join.specs.Inside.Slots.{At, HasPlace}
use Rattle.sms_join.specs.Joiner.Finishing.{lacks_only}
use Rattle.sms_join.specs.Reading.{text_of_segments}
use Rattle.sms_join.proofs.SameKeys.{same_key_true}
use Rattle.sms_join.proofs.Same.{same_refl, same_trans}
use Rattle.sms_join.proofs.OneSet.{with_piece_set, with_piece_length}
use Rattle.sms_join.proofs.Places.{split_at, set_at, none_open}
use Rattle.sms_join.proofs.Swapped.{Left, swapped}
use Rattle.sms_join.proofs.Outcomes.{joiner_of, Between, between, are_open_without, are_open_with, are_open_more, says_repeat, InPlace, there_repeats, keeps_more, finishes_set, finishes_alone, opens_set, too_many}

pub in_place : (now : ℕ) (to : Option AddressValue) (origin : AddressValue) (stamp : List ℕ) (concat : Option Concat) (units : Units) → IsPlace concat
    → InPlace (piece_to now to origin stamp concat units)
in_place now None origin stamp None units h = record { maximum = refl; from_one = omega arith; within = omega arith }
in_place now None origin stamp (Some c) units h = record { maximum = refl; from_one = h.0; within = h.1 }
in_place now (Some r) origin stamp None units h = record { maximum = refl; from_one = omega arith; within = omega arith }
in_place now (Some r) origin stamp (Some c) units h = record { maximum = refl; from_one = h.0; within = h.1 }

pub size_is : (to : Option AddressValue) (origin : AddressValue) (stamp : List ℕ) (concat : Option Concat) → size_of concat ≡ maximum_of (key_to to origin stamp concat)
size_is None origin stamp None = refl
size_is None origin stamp (Some c) = refl
size_is (Some r) origin stamp None = refl
size_is (Some r) origin stamp (Some c) = refl

-- an answer that is said

pub says_again : (m : ℕ) (j : Joiner) (p : Piece) → answer m j p ≡ Repeat → Says m j p (Ok offers.Repeat)
says_again m j p e = subst (λ (a : Answer). SaysAnswer a (is_first j p) (Ok offers.Repeat)) (sym e) tt

pub says_keeping : (m : ℕ) (j : Joiner) (p : Piece) → answer m j p ≡ Kept → Says m j p (Ok offers.Kept)
says_keeping m j p e = subst (λ (a : Answer). SaysAnswer a (is_first j p) (Ok offers.Kept)) (sym e) tt

pub says_full : (m : ℕ) (j : Joiner) (p : Piece) → answer m j p ≡ TooManyOpen → Says m j p (Err faults.TooManyOpen)
says_full m j p e = subst (λ (a : Answer). SaysAnswer a (is_first j p) (Err faults.TooManyOpen)) (sym e) tt

pub kept_memory : (m : ℕ) (j : Joiner) (p : Piece) → is_open j.kept p.key ≡ false → answer m j p ≡ Kept → Says m j p (Err faults.Memory)
kept_memory m j p closed e = subst (λ (a : Answer). SaysAnswer a (is_first j p) (Err faults.Memory)) (sym e) (ap not closed)

pub whole_memory : (m : ℕ) (j : Joiner) (p : Piece) (us : List Units) → answer m j p ≡ Finished us → Says m j p (Err faults.Memory)
whole_memory m j p us e = subst (λ (a : Answer). SaysAnswer a (is_first j p) (Err faults.Memory)) (sym e) tt

-- the set of a key, found at a place
pub record Found (ss : List SetValue) (k : Key) (i : ℕ) (s : SetValue) : Type 0 where
  pub within : i < length ss
  pub there : slice_get ss i ≡ Some s
  pub key : s.key ≡ k

pub found : (ss : List SetValue) (k : Key) (i : ℕ) → position (λ (t : SetValue). same_key t.key k) ss ≡ Some i → (s : SetValue) × Found ss k i s
found ss k i e =
    let w = within ss i e in
    let s = some_there ss i w in
    (s.0, record { within = w; there = s.1; key = same_key_true s.0.key k (same s.0 s.1) })
  where
    none : SetValue
    none = record { key = k; opened = 0; turn = 0; sequences = []; units = [] }

    within : (ts : List SetValue) (j : ℕ) → position (λ (t : SetValue). same_key t.key k) ts ≡ Some j → j < length ts
    within ts j e = (position-Some (λ (t : SetValue). same_key t.key k) ts j none e).0

    some_there : (ts : List SetValue) (j : ℕ) → j < length ts → (s : SetValue) × (slice_get ts j ≡ Some s)
    some_there [] j l = absurd (omega arith)
    some_there (t ∷ ts) zero l = (t, refl)
    some_there (t ∷ ts) (suc j) l = some_there ts j (omega arith)

    same : (s : SetValue) → slice_get ss i ≡ Some s → same_key s.key k ≡ true
    same s there =
        subst (λ (t : SetValue). same_key t.key k ≡ true) (get_or_from_slice_get ss i s none there)
        (position-Some (λ (t : SetValue). same_key t.key k) ss i none e).1

pub has_place : (ss : List SetValue) (i : ℕ) (s : SetValue) (p : Piece) → Found ss p.key i s → InPlace p → HasPlace ss i p.sequence
has_place ss i s p f place =
    record { own = s; there = f.there; from_one = place.from_one; within = subst (λ (l : Key). p.sequence ≤ maximum_of l) (sym f.key) place.within }

-- what is told of the set at a place
pub told : (ss : List SetValue) (i : ℕ) (s : SetValue) (P : SetValue → Type 0) → slice_get ss i ≡ Some s → P s → At ss i P
told ss i s P there h = λ t e. subst P (same s t (sym there ∙ e)) h
  where
    same : (x y : SetValue) → Some x ≡ Some y → x ≡ y
    same x y e = cc

module _ (open_max remembered : ℕ) (ss : List SetValue) (ks : List Key) (i : ℕ) (s : SetValue) (p : Piece) (o : AreOpen ss) (f : Found ss p.key i s)
    (place : InPlace p) (fresh : is_among ks p.key ≡ false) where
  split : ss ≡ take i ss ++ s ∷ drop (suc i) ss
  split =
      split_at ss i s f.within
      ∙ ap (λ v. take i ss ++ v ∷ drop (suc i) ss) (get_or_from_slice_get ss i s s f.there)

  b : Between (take i ss) s (drop (suc i) ss)
  b = between (take i ss) s (drop (suc i) ss) (subst AreOpen split o)

  changed : set ss i (with_piece s p.sequence p.units) ≡ take i ss ++ with_piece s p.sequence p.units ∷ drop (suc i) ss
  changed = set_at ss i (with_piece s p.sequence p.units) f.within

  from_split : (P : Joiner → Type 0) → P (joiner_of (take i ss ++ s ∷ drop (suc i) ss) ks) → P (joiner_of ss ks)
  from_split P h = subst (λ (l : List SetValue). P (joiner_of l ks)) (sym split) h

  pub set_repeats : is_in p.sequence s.sequences ≡ true
      → (answer open_max (joiner_of ss ks) p ≡ Repeat) × IsSame (joiner_of ss ks) (offered open_max remembered (joiner_of ss ks) p)
  set_repeats h =
      let r = says_repeat open_max remembered (joiner_of ss ks) p
      (from_split (λ j. is_repeat j p ≡ true) (there_repeats (take i ss) s (drop (suc i) ss) ks b p (sym f.key) h)) in
      (r.0, subst (λ (j : Joiner). IsSame (joiner_of ss ks) j) (sym r.1) (same_refl (joiner_of ss ks)))

  pub set_keeps : is_in p.sequence s.sequences ≡ false → eqb (suc (length s.sequences)) (maximum_of s.key) ≡ false
      → AreOpen (set ss i (with_piece s p.sequence p.units)) × (answer open_max (joiner_of ss ks) p ≡ Kept)
      × IsSame (joiner_of (set ss i (with_piece s p.sequence p.units)) ks) (offered open_max remembered (joiner_of ss ks) p)
  set_keeps new part = (
    subst AreOpen (sym changed) (are_open_with (take i ss) s (with_piece s p.sequence p.units) (drop (suc i) ss) refl more (subst AreOpen split o)),
    from_split (λ j. answer open_max j p ≡ Kept) k.0,
    subst (λ (l : List SetValue). IsSame (joiner_of l ks) (offered open_max remembered (joiner_of ss ks) p)) (sym changed)
        (from_split (λ j. IsSame (joiner_of (take i ss ++ with_piece s p.sequence p.units ∷ drop (suc i) ss) ks) (offered open_max remembered j p)) k.1),
  )
    where
      k : (answer open_max (joiner_of (take i ss ++ s ∷ drop (suc i) ss) ks) p ≡ Kept)
          × IsSame (joiner_of (take i ss ++ with_piece s p.sequence p.units ∷ drop (suc i) ss) ks) (offered open_max remembered (joiner_of (take i ss ++ s ∷ drop (suc i) ss) ks) p)
      k = keeps_more (take i ss) s (drop (suc i) ss) ks b p (sym f.key) open_max remembered place fresh new part

      more : IsOpen (with_piece s p.sequence p.units)
      more =
          record {
            is_set = with_piece_set s p.sequence p.units b.open_set.is_set place.from_one (subst (λ (l : Key). p.sequence ≤ maximum_of l) (sym f.key) place.within) new;
            some = let l = with_piece_length s p.sequence p.units in omega arith;
            part =
                let l = with_piece_length s p.sequence p.units in
                let less = b.open_set.part in
                let ne = eqb-false _ _ part in
                below (length s.sequences) (maximum_of s.key) (length (with_piece s p.sequence p.units).sequences) l less ne;
          }
        where
          below : (a m n : ℕ) → n ≡ suc a → a < m → (suc a ≡ m → ⊥) → n < m
          below a m n e l ne = omega arith

  pub set_goes : AreOpen (remove ss i)
  set_goes = are_open_without (take i ss) s (drop (suc i) ss) (subst AreOpen split o)

  pub set_finishes : is_in p.sequence s.sequences ≡ false → eqb (suc (length s.sequences)) (maximum_of s.key) ≡ true
      → (answer open_max (joiner_of ss ks) p ≡ Finished (with_piece s p.sequence p.units).units)
      × IsSame (joiner_of (remove ss i) (take remembered (s.key ∷ ks))) (offered open_max remembered (joiner_of ss ks) p)
  set_finishes new full =
      (r.0, subst (λ (j : Joiner). IsSame (joiner_of (remove ss i) (take remembered (s.key ∷ ks))) j) (sym r.1) (same_refl (joiner_of (remove ss i) (take remembered (s.key ∷ ks)))))
    where
      r : (answer open_max (joiner_of ss ks) p ≡ Finished (with_piece s p.sequence p.units).units)
          × (offered open_max remembered (joiner_of ss ks) p ≡ joiner_of (remove ss i) (take remembered (s.key ∷ ks)))
      r =
          from_split (λ j. (answer open_max j p ≡ Finished (with_piece s p.sequence p.units).units)
          × (offered open_max remembered j p ≡ joiner_of (remove ss i) (take remembered (s.key ∷ ks))))
          (finishes_set (take i ss) s (drop (suc i) ss) ks b p (sym f.key) open_max remembered place fresh new full)

-- a whole set that is read as its text
pub says_text : (m : ℕ) (j : Joiner) (p : Piece) (us : List Units) (text : _) → answer m j p ≡ Finished us → chars (string_bytes text) ≡ text_of_segments us → Says m j p (Ok (offers.Finished text))
says_text m j p us text e h = subst (λ (a : Answer). SaysAnswer a (is_first j p) (Ok (offers.Finished text))) (sym e) h

-- a joiner of these fields
abbrev pub value_of : ℕ → LastKeysValue → List SetValue → JoinerValue
value_of open_max l ss = record { open_max = open_max; remembered = l.limit; holds = joiner_of ss l.keys; told = ss }

-- no set of the key is there
module _ (m : ℕ) (l : LastKeysValue) (ss : List SetValue) (o : AreOpen ss) (p : Piece) (place : InPlace p) where
  pub first_alone : (v : JoinerValue) → value_of m l ss ≡ v → is_among v.holds.finished p.key ≡ false → is_open v.holds.kept p.key ≡ false → maximum_of p.key ≡ 1
      → (answer v.open_max v.holds p ≡ Finished (p.units ∷ []))
      × IsSame (joiner_of ss (take l.limit (p.key ∷ l.keys))) (offered v.open_max v.remembered v.holds p)
  first_alone v view =
      subst (λ (v : JoinerValue). is_among v.holds.finished p.key ≡ false → is_open v.holds.kept p.key ≡ false → maximum_of p.key ≡ 1
      → (answer v.open_max v.holds p ≡ Finished (p.units ∷ []))
      × IsSame (joiner_of ss (take l.limit (p.key ∷ l.keys))) (offered v.open_max v.remembered v.holds p)) view
      (λ fresh closed one.
      let f = finishes_alone ss l.keys p place fresh (none_open ss p.key o closed) m l.limit one in
      (f.0, subst (λ (j : Joiner). IsSame (joiner_of ss (take l.limit (p.key ∷ l.keys))) j) (sym f.1) (same_refl (joiner_of ss (take l.limit (p.key ∷ l.keys))))))

  pub first_kept : (t : ℕ) (v : JoinerValue) → value_of m l ss ≡ v → is_among v.holds.finished p.key ≡ false → is_open v.holds.kept p.key ≡ false → (1 ≡ maximum_of p.key → ⊥) → length ss < m
      → (answer v.open_max v.holds p ≡ Kept)
      × IsSame (joiner_of (ss ++ record { key = p.key; opened = p.moment; turn = t; sequences = p.sequence ∷ []; units = p.units ∷ [] } ∷ []) l.keys) (offered v.open_max v.remembered v.holds p)
      × AreOpen (ss ++ record { key = p.key; opened = p.moment; turn = t; sequences = p.sequence ∷ []; units = p.units ∷ [] } ∷ [])
  first_kept t v view =
      subst (λ (v : JoinerValue). is_among v.holds.finished p.key ≡ false → is_open v.holds.kept p.key ≡ false → (1 ≡ maximum_of p.key → ⊥) → length ss < m
      → (answer v.open_max v.holds p ≡ Kept)
      × IsSame (joiner_of (ss ++ record { key = p.key; opened = p.moment; turn = t; sequences = p.sequence ∷ []; units = p.units ∷ [] } ∷ []) l.keys) (offered v.open_max v.remembered v.holds p)
      × AreOpen (ss ++ record { key = p.key; opened = p.moment; turn = t; sequences = p.sequence ∷ []; units = p.units ∷ [] } ∷ [])) view
      (λ fresh closed more less.
      let none = none_open ss p.key o closed in
      let k = opens_set ss l.keys p place fresh none m l.limit t o (ne_eqb _ _ more) less in
      (k.0, k.1, are_open_more ss (record { key = p.key; opened = p.moment; turn = t; sequences = p.sequence ∷ []; units = p.units ∷ [] }) o (one_open more) none))
    where
      one_open : (1 ≡ maximum_of p.key → ⊥) → IsOpen (record { key = p.key; opened = p.moment; turn = t; sequences = p.sequence ∷ []; units = p.units ∷ [] })
      one_open more =
          record {
            is_set = record { rising = (place.from_one, place.within); as_many = refl };
            some = omega arith;
            part = part (maximum_of p.key) more (let a = place.from_one in let b = place.within in omega arith);
          }
        where
          part : (n : ℕ) → (1 ≡ n → ⊥) → 0 < n → 1 < n
          part n h g = omega arith

  pub first_refused : (v : JoinerValue) → value_of m l ss ≡ v → is_among v.holds.finished p.key ≡ false → is_open v.holds.kept p.key ≡ false → (1 ≡ maximum_of p.key → ⊥) → m ≤ length ss
      → answer v.open_max v.holds p ≡ TooManyOpen
  first_refused v view =
      subst (λ (v : JoinerValue). is_among v.holds.finished p.key ≡ false → is_open v.holds.kept p.key ≡ false → (1 ≡ maximum_of p.key → ⊥) → m ≤ length ss
      → answer v.open_max v.holds p ≡ TooManyOpen) view
      (λ fresh closed more full. too_many ss l.keys p place fresh (none_open ss p.key o closed) m o (ne_eqb _ _ more) full)

-- what is known where a set of the key is open
pub record Knows (l : LastKeysValue) (ss : List SetValue) (p : Piece) (i n : ℕ) : Type 0 where
  pub are_open : AreOpen ss
  pub place : InPlace p
  pub own : SetValue
  pub found : Found ss p.key i own
  pub fresh : is_among l.keys p.key ≡ false
  pub number : n ≡ p.sequence

pub knows : (l : LastKeysValue) (ss : List SetValue) (p : Piece) (i n : ℕ) → AreOpen ss → InPlace p
    → (r : Option ℕ) → r ≡ Some i → r ≡ position (λ (t : SetValue). same_key t.key p.key) ss
    → (b : Bool) → b ≡ is_among l.keys p.key → b ≡ false → n ≡ p.sequence → Knows l ss p i n
knows l ss p i n o place r some at _ is other number =
    let f = found ss p.key i (sym at ∙ some) in
    record { are_open = o; place = place; own = f.0; found = f.1; fresh = sym is ∙ other; number = number }

module _ (m : ℕ) (l : LastKeysValue) (ss : List SetValue) (p : Piece) (i n : ℕ) (h : Knows l ss p i n) where
  pub known_place : HasPlace ss i n
  known_place = subst (λ k. HasPlace ss i k) (sym h.number) (has_place ss i h.own p h.found h.place)

  -- whether the piece has come
  pub come : (b c : Bool) → At ss i (λ s. b ≡ is_in n s.sequences) → b ≡ c → is_in p.sequence h.own.sequences ≡ c
  come b c told e = ap (λ k. is_in k h.own.sequences) (sym h.number) ∙ (sym (told h.own h.found.there) ∙ e)

  -- whether it is the last one
  pub last : (b c : Bool) → At ss i (λ s. b ≡ eqb (suc (length s.sequences)) (maximum_of s.key)) → b ≡ c
      → eqb (suc (length h.own.sequences)) (maximum_of h.own.key) ≡ c
  last b c told e = sym (told h.own h.found.there) ∙ e

  pub missing : (b : Bool) → At ss i (λ s. b ≡ is_in n s.sequences) → b ≡ false → At ss i (λ s. is_in n s.sequences ≡ false)
  missing b told e = λ s there. sym (told s there) ∙ e

  module _ (v : JoinerValue) (view : value_of m l ss ≡ v) (b : Bool) (has : At ss i (λ s. b ≡ is_in n s.sequences)) where
    pub known_repeat : b ≡ true → (answer v.open_max v.holds p ≡ Repeat) × IsSame v.holds (offered v.open_max v.remembered v.holds p)
    known_repeat e =
        subst (λ (v : JoinerValue). (answer v.open_max v.holds p ≡ Repeat) × IsSame v.holds (offered v.open_max v.remembered v.holds p)) view
        (set_repeats m l.limit ss l.keys i h.own p h.are_open h.found h.place h.fresh (come b true has e))

    module _ (no : b ≡ false) (c : Bool) (one : At ss i (λ s. c ≡ eqb (suc (length s.sequences)) (maximum_of s.key))) where
      pub known_kept : c ≡ false → (ts : List SetValue) → At ss i (λ s. ts ≡ set ss i (with_piece s n p.units))
          → AreOpen ts × (answer v.open_max v.holds p ≡ Kept) × IsSame (joiner_of ts l.keys) (offered v.open_max v.remembered v.holds p)
      known_kept e ts put =
          subst (λ (v : JoinerValue). AreOpen ts × (answer v.open_max v.holds p ≡ Kept) × IsSame (joiner_of ts l.keys) (offered v.open_max v.remembered v.holds p)) view
          (subst (λ (ts : List SetValue). AreOpen ts × (answer m (joiner_of ss l.keys) p ≡ Kept) × IsSame (joiner_of ts l.keys) (offered m l.limit (joiner_of ss l.keys) p))
          (sym (put h.own h.found.there ∙ ap (λ k. set ss i (with_piece h.own k p.units)) h.number))
          (set_keeps m l.limit ss l.keys i h.own p h.are_open h.found h.place h.fresh (come b false has no) (last c false one e)))

      pub known_whole : c ≡ true → answer v.open_max v.holds p ≡ Finished (with_piece h.own p.sequence p.units).units
      known_whole e =
          subst (λ (v : JoinerValue). answer v.open_max v.holds p ≡ Finished (with_piece h.own p.sequence p.units).units) view
          (set_finishes m l.limit ss l.keys i h.own p h.are_open h.found h.place h.fresh (come b false has no) (last c true one e)).0

      pub known_finish : c ≡ true → (ts : List SetValue) → At ss i (λ s. ts ≡ swap_remove ss i s)
          → AreOpen ts × IsSame (joiner_of ts (take l.limit (p.key ∷ l.keys))) (offered v.open_max v.remembered v.holds p)
      known_finish e ts gone =
          subst (λ (v : JoinerValue). AreOpen ts × IsSame (joiner_of ts (take l.limit (p.key ∷ l.keys))) (offered v.open_max v.remembered v.holds p)) view
          (left.are_open, same_trans (joiner_of ts ks) (joiner_of (remove ss i) ks) (offered m l.limit (joiner_of ss l.keys) p) left.same rest)
        where
          ks : List Key
          ks = take l.limit (p.key ∷ l.keys)

          left : Left ss i ks ts
          left =
              subst (Left ss i ks) (sym (gone h.own h.found.there))
              (swapped ss i h.own ks h.found.within (set_goes m l.limit ss l.keys i h.own p h.are_open h.found h.place h.fresh))

          rest : IsSame (joiner_of (remove ss i) ks) (offered m l.limit (joiner_of ss l.keys) p)
          rest =
              subst (λ (k : Key). IsSame (joiner_of (remove ss i) (take l.limit (k ∷ l.keys))) (offered m l.limit (joiner_of ss l.keys) p)) h.found.key
              (set_finishes m l.limit ss l.keys i h.own p h.are_open h.found h.place h.fresh (come b false has no) (last c true one e)).1

      pub known_text : c ≡ true → (text : List ℕ) → At ss i (λ s. (k : ℕ) → 0 < k → k ≤ maximum_of s.key → lacks_only s k ≡ true
          → text ≡ text_of_segments (with_piece s k p.units).units)
          → text ≡ text_of_segments (with_piece h.own p.sequence p.units).units
      known_text e text read =
          read h.own h.found.there p.sequence h.place.from_one (subst (λ (j : Key). p.sequence ≤ maximum_of j) (sym h.found.key) h.place.within)
          (rw (come b false has no, last c true one e) refl)

-- a set that was opened
pub opened_set : (xs ys : List SetValue) (k l : Key) (opened t n m : ℕ) (u : Units)
    → ys ≡ xs ++ record { key = k; opened = opened; turn = t; sequences = n ∷ []; units = u ∷ [] } ∷ [] → k ≡ l → n ≡ m
    → ys ≡ xs ++ record { key = l; opened = opened; turn = t; sequences = m ∷ []; units = u ∷ [] } ∷ []
opened_set xs ys k l opened t n m u a d e =
    a ∙ (ap (λ (j : Key). xs ++ record { key = j; opened = opened; turn = t; sequences = n ∷ []; units = u ∷ [] } ∷ []) d
    ∙ ap (λ (i : ℕ). xs ++ record { key = l; opened = opened; turn = t; sequences = i ∷ []; units = u ∷ [] } ∷ []) e)
