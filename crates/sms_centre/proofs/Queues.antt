-- A queue by its stamps: what an acceptance, a push, an answer and the end of a message make of it.
use Rattle.std.proofs.Common.{◌^◌, ◌≡◌, ℕ, suc, ◌+◌, ◌<◌, ◌≤◌, ◌-◌, Bool, true, false, not, nat_lt, nat_eq, List, [], ◌∷◌, ◌++◌, map, reverse, take, get_or, length, Option, Some, None, refl, sym, ap, ◌∙◌, subst, arith}
use Rattle.std.specs.Prelude.{All, ◌==◌, ◌||◌}
use Rattle.std.specs.Cmp.{nat_eq_equiv}
use Rattle.std.specs.List.{AllByRecursion, IsDistinct, filter}
use Rattle.std.specs.Map.{keys_of, lookup, lookup_entry, remove_entry}
use Rattle.std.proofs.lemmas.Bool.Decides.{nat_tests}
use Rattle.std.proofs.lemmas.Grind.{reverse_onto}
use Rattle.std.proofs.lemmas.List.{append-nil, take_more, take_all, map-append, reverse-append, length-append, length-reverse, length-map}
use Rattle.std.proofs.lemmas.List.Elements.{All-head, All-tail, All-cons, All-filter, filter-append, filter_passes}
use Rattle.std.proofs.lemmas.Map.Entries.{lookup_from_place}
use Rattle.std.proofs.lemmas.Map.Keys.{IsDistinct-head, IsDistinct-tail, IsDistinct-cons}
use Rattle.std.proofs.lemmas.Map.Made.{IsDistinct-keys_filter}
use Rattle.std.proofs.lemmas.Option.{slice_get-get_or, get_or_from_slice_get}
use Rattle.lru.specs.LruCache.{LruCache, last_entry, promoted, put_entries, lru_cache}
use Rattle.sms_centre.specs.Centre.Value.{WaitingValue}
use Rattle.sms_centre.specs.Inside.Queue.{queue_of, IsQueue}
use Rattle.sms_centre.specs.Centre.Verdicts.{stays}
use Rattle.sms_centre.specs.Inside.Lines.{left_waiting}

-- a message by its stamp
abbrev Entry : Type 0
Entry = ℕ × WaitingValue

-- ---- the entries that pass a test

queue_more : (e : Entry) (entries : List Entry) → queue_of (e ∷ entries) ≡ queue_of entries ++ e.1 ∷ []
queue_more e entries = reverse_onto (map (λ (x : Entry). x.1) entries) e.1 []

kept_step : (p : Entry → Bool) (q : WaitingValue → Bool) (e : Entry) (entries : List Entry) (b : Bool) → p e ≡ b → q e.1 ≡ b
    → queue_of (filter p entries) ≡ filter q (queue_of entries) → queue_of (filter p (e ∷ entries)) ≡ filter q (queue_of (e ∷ entries))
kept_step p q e entries true f g h =
    let last : filter q (e.1 ∷ []) ≡ e.1 ∷ [] = rw g refl in
    let first : filter p (e ∷ entries) ≡ e ∷ filter p entries = rw f refl in
    ap queue_of first
    ∙ (queue_more e (filter p entries)
    ∙ (ap (λ (r : List WaitingValue). r ++ e.1 ∷ []) h
    ∙ sym (ap (filter q) (queue_more e entries) ∙ (filter-append q (queue_of entries) (e.1 ∷ []) ∙ ap (λ (r : List WaitingValue). filter q (queue_of entries) ++ r) last))))
kept_step p q e entries false f g h =
    let last : filter q (e.1 ∷ []) ≡ [] = rw g refl in
    let first : filter p (e ∷ entries) ≡ filter p entries = rw f refl in
    ap queue_of first
    ∙ (h
    ∙ sym (ap (filter q) (queue_more e entries) ∙ (filter-append q (queue_of entries) (e.1 ∷ []) ∙ (ap (λ (r : List WaitingValue). filter q (queue_of entries) ++ r) last ∙ append-nil (filter q (queue_of entries))))))

-- a test of the entries that is one of the messages
queue_kept : (p : Entry → Bool) (q : WaitingValue → Bool) (entries : List Entry) → All (λ e. p e ≡ q e.1) entries → queue_of (filter p entries) ≡ filter q (queue_of entries)
queue_kept p q [] h = refl
queue_kept p q (e ∷ entries) h =
    let same = All-head (λ (x : Entry). p x ≡ q x.1) e entries h in
    kept_step p q e entries (q e.1) same refl (queue_kept p q entries (All-tail (λ (x : Entry). p x ≡ q x.1) e entries h))

all_kept : (entries : List Entry) → filter (λ _. true) entries ≡ entries
all_kept [] = refl
all_kept (e ∷ entries) = ap (λ (r : List Entry). e ∷ r) (all_kept entries)

-- ---- what is left without a stamp

abbrev other_key : ℕ → Entry → Bool
other_key stamp e = not (nat_eq stamp e.0)

same_apart : (k stamp y : ℕ) → nat_eq stamp k ≡ true → nat_eq k y ≡ false → not (nat_eq stamp y) ≡ true
same_apart k stamp y e f = grind (arith, nat_tests)

others_stay : (k stamp : ℕ) (entries : List Entry) → nat_eq stamp k ≡ true → AllByRecursion (λ y. nat_eq k y ≡ false) (keys_of entries) → filter (other_key stamp) entries ≡ entries
others_stay k stamp [] e h = refl
others_stay k stamp (x ∷ entries) e h = rw (same_apart k stamp x.0 e h.0) (ap (λ (r : List Entry). x ∷ r) (others_stay k stamp entries e h.1))

removed_step : (stamp : ℕ) (e : Entry) (entries : List Entry) (b : Bool) → nat_eq stamp e.0 ≡ b → AllByRecursion (λ y. nat_eq e.0 y ≡ false) (keys_of entries)
    → remove_entry (nat_eq stamp) entries ≡ filter (other_key stamp) entries → remove_entry (nat_eq stamp) (e ∷ entries) ≡ filter (other_key stamp) (e ∷ entries)
removed_step stamp e entries true f apart h = rw f (sym (others_stay e.0 stamp entries f apart))
removed_step stamp e entries false f apart h = rw f (ap (λ (r : List Entry). e ∷ r) h)

removed_is : (stamp : ℕ) (entries : List Entry) → IsDistinct nat_eq (keys_of entries) → remove_entry (nat_eq stamp) entries ≡ filter (other_key stamp) entries
removed_is stamp [] h = refl
removed_is stamp (e ∷ entries) h =
    removed_step stamp e entries (nat_eq stamp e.0) refl (IsDistinct-head nat_eq e.0 (keys_of entries) h) (removed_is stamp entries (IsDistinct-tail nat_eq e.0 (keys_of entries) h))

kept_queue : (p : Entry → Bool) (entries : List Entry) (free : ℕ) → IsQueue entries free → IsQueue (filter p entries) free
kept_queue p entries free h = record {
  differ = IsDistinct-keys_filter nat_eq p entries h.differ;
  own = All-filter p (λ (e : Entry). e.0 ≡ e.1.stamp) entries h.own;
  below = All-filter p (λ (e : Entry). e.0 < free) entries h.below;
}

removed_queue : (entries : List Entry) (free stamp : ℕ) → IsQueue entries free → IsQueue (remove_entry (nat_eq stamp) entries) free
removed_queue entries free stamp h =
    subst (λ (es : List Entry). IsQueue es free) (sym (removed_is stamp entries h.differ)) (kept_queue (other_key stamp) entries free h)

pub taken_queue : (old new : LruCache ℕ WaitingValue) (cap free stamp : ℕ) → new ≡ lru_cache (remove_entry (nat_eq stamp) old.entries) old.cap → old.cap ≡ cap → IsQueue old.entries free
    → (new.cap ≡ cap) × IsQueue new.entries free
taken_queue old new cap free stamp is same h =
    subst (λ (q : LruCache ℕ WaitingValue). (q.cap ≡ cap) × IsQueue q.entries free) (sym is) (same, removed_queue old.entries free stamp h)

-- ---- the answer to a push

same_test : (stamp key own : ℕ) → key ≡ own → not (nat_eq stamp key) ≡ not (own == stamp)
same_test stamp key own e = grind (arith, nat_tests)

removed_messages : (entries : List Entry) (free stamp : ℕ) → IsQueue entries free → queue_of (remove_entry (nat_eq stamp) entries) ≡ filter (λ m. not (m.stamp == stamp)) (queue_of entries)
removed_messages entries free stamp h =
    ap queue_of (removed_is stamp entries h.differ)
    ∙ queue_kept (other_key stamp) (λ m. not (m.stamp == stamp)) entries (λ k d within. same_test stamp (get_or entries k d).0 (get_or entries k d).1.stamp (h.own k d within))

pub message_left : (old new : LruCache ℕ WaitingValue) (free stamp : ℕ) (cause : Option ℕ) → stays cause ≡ false → new ≡ lru_cache (remove_entry (nat_eq stamp) old.entries) old.cap → IsQueue old.entries free
    → queue_of new.entries ≡ left_waiting (queue_of old.entries) stamp cause
message_left old new free stamp cause goes is h = rw goes (ap (λ (q : LruCache ℕ WaitingValue). queue_of q.entries) is ∙ removed_messages old.entries free stamp h)

pub message_stays : (queue : List WaitingValue) (stamp : ℕ) (cause : Option ℕ) → stays cause ≡ true → queue ≡ left_waiting queue stamp cause
message_stays queue stamp cause stay = rw stay refl

-- ---- the end of a message

-- each is found by its stamp
found_by_key : (entries : List Entry) → IsDistinct nat_eq (keys_of entries) → All (λ e. lookup (nat_eq e.0) entries ≡ Some e.1) entries
found_by_key entries h = λ k d within.
    let e = get_or entries k d in
    lookup_from_place nat_eq_equiv entries k e.0 e.1 h (slice_get-get_or entries k d within)

later_stays : (now stamp key own ends : ℕ) → key ≡ own → (stamp ≡ key → now < ends) → true ≡ (not (own == stamp) || nat_lt now ends)
later_stays now stamp key own ends e f = grind (arith, nat_tests, f)

ended_goes : (now stamp key own ends : ℕ) → key ≡ own → (stamp ≡ key → ends ≤ now) → not (nat_eq stamp key) ≡ (not (own == stamp) || nat_lt now ends)
ended_goes now stamp key own ends e f = grind (arith, nat_tests, f)

-- no message with the stamp has ended
pub none_ended : (entries : List Entry) (free now stamp : ℕ) → IsQueue entries free → ((m : WaitingValue) → lookup (nat_eq stamp) entries ≡ Some m → now < m.ends)
    → queue_of entries ≡ filter (λ m. not (m.stamp == stamp) || nat_lt now m.ends) (queue_of entries)
none_ended entries free now stamp h later =
    ap queue_of (sym (all_kept entries))
    ∙ queue_kept (λ _. true) (λ m. not (m.stamp == stamp) || nat_lt now m.ends) entries
    (λ k d within.
    let e = get_or entries k d in
    later_stays now stamp e.0 e.1.stamp e.1.ends (h.own k d within)
    (λ same. later e.1 (ap (λ n. lookup (nat_eq n) entries) same ∙ found_by_key entries h.differ k d within)))

-- the message with the stamp has ended
pub it_ended : (entries : List Entry) (free now stamp : ℕ) (m : WaitingValue) → IsQueue entries free → lookup (nat_eq stamp) entries ≡ Some m → m.ends ≤ now
    → queue_of (remove_entry (nat_eq stamp) entries) ≡ filter (λ m. not (m.stamp == stamp) || nat_lt now m.ends) (queue_of entries)
it_ended entries free now stamp m h is ended =
    ap queue_of (removed_is stamp entries h.differ)
    ∙ queue_kept (other_key stamp) (λ m. not (m.stamp == stamp) || nat_lt now m.ends) entries
    (λ k d within.
    let e = get_or entries k d in
    ended_goes now stamp e.0 e.1.stamp e.1.ends (h.own k d within)
    (λ same.
    let found = ap (λ n. lookup (nat_eq n) entries) same ∙ found_by_key entries h.differ k d within in
    let one : m ≡ e.1 = cc in
    subst (λ (x : WaitingValue). x.ends ≤ now) one ended))

-- ---- an acceptance

apart_above : (k free key : ℕ) → free ≤ k → key < free → nat_eq k key ≡ false
apart_above k free key le lt = grind (arith, nat_tests)

all_apart : (k free : ℕ) (entries : List Entry) → free ≤ k → All (λ e. e.0 < free) entries → AllByRecursion (λ y. nat_eq k y ≡ false) (keys_of entries)
all_apart k free [] le h = tt
all_apart k free (e ∷ entries) le h =
    (apart_above k free e.0 le (All-head (λ (x : Entry). x.0 < free) e entries h), all_apart k free entries le (All-tail (λ (x : Entry). x.0 < free) e entries h))

none_found : (k : ℕ) (entries : List Entry) → AllByRecursion (λ y. nat_eq k y ≡ false) (keys_of entries) → lookup_entry (nat_eq k) entries ≡ None
none_found k [] h = refl
none_found k (e ∷ entries) h = rw (h.0) (none_found k entries h.1)

-- a new message stands before the others, for which there is room
pub put_first : (old new : LruCache ℕ WaitingValue) (free k n : ℕ) (m : WaitingValue) → new ≡ lru_cache (put_entries nat_eq old k m) old.cap → IsQueue old.entries free → free ≤ k
    → n ≡ length old.entries → n < 2 ^ 63 → old.cap ≡ 2 ^ 64 - 1 → new ≡ lru_cache ((k, m) ∷ old.entries) old.cap
put_first old new free k n m is h le long fits cap =
    let absent = none_found k old.entries (all_apart k free old.entries le h.below) in
    let room : length old.entries ≤ old.cap - 1 = omega (arith, long, fits, cap) in
    let all = take_all (old.cap - 1) old.entries room in
    is ∙ rw (absent, all) refl

pub accepted_queue : (old new : LruCache ℕ WaitingValue) (cap free k : ℕ) (m : WaitingValue) → new ≡ lru_cache ((k, m) ∷ old.entries) old.cap → old.cap ≡ cap → IsQueue old.entries free → free ≤ k → k ≡ m.stamp
    → (new.cap ≡ cap) × IsQueue new.entries (k + 1)
accepted_queue old new cap free k m is same h le own =
    subst (λ (q : LruCache ℕ WaitingValue). (q.cap ≡ cap) × IsQueue q.entries (k + 1)) (sym is) (
      same,
      record {
        differ = IsDistinct-cons nat_eq k (keys_of old.entries) (all_apart k free old.entries le h.below) h.differ;
        own = All-cons (λ (e : Entry). e.0 ≡ e.1.stamp) (k, m) old.entries own h.own;
        below = All-cons (λ (e : Entry). e.0 < k + 1) (k, m) old.entries (omega arith) (λ i d within. let lt = h.below i d within in omega (arith, lt, le));
      },
    )

pub accepted_messages : (old new : LruCache ℕ WaitingValue) (k : ℕ) (m : WaitingValue) → new ≡ lru_cache ((k, m) ∷ old.entries) old.cap → queue_of new.entries ≡ queue_of old.entries ++ m ∷ []
accepted_messages old new k m is = ap (λ (q : LruCache ℕ WaitingValue). queue_of q.entries) is ∙ queue_more (k, m) old.entries

-- it is taken out again
pub put_undone : (old new left : LruCache ℕ WaitingValue) (k : ℕ) (m : WaitingValue) → new ≡ lru_cache ((k, m) ∷ old.entries) old.cap → left ≡ lru_cache (remove_entry (nat_eq k) new.entries) new.cap → left ≡ old
put_undone old new left k m is taken =
    taken ∙ (ap (λ (q : LruCache ℕ WaitingValue). lru_cache (remove_entry (nat_eq k) q.entries) q.cap) is ∙ rw (nat_eq_equiv.refl k) refl)

-- ---- a push

-- the entry that was used least recently, and those before it
split_last : (entries : List Entry) (e : Entry) → last_entry entries ≡ Some e → entries ≡ take (length entries - 1) entries ++ e ∷ []
split_last [] e h = absurd cc
split_last (x ∷ entries) e h =
    let all = x ∷ entries in
    let k = length all - 1 in
    sym (take_all (k + 1) all (omega arith)) ∙ (take_more all k e (omega arith) ∙ ap (λ (y : Entry). take k all ++ y ∷ []) (get_or_from_slice_get all k e e h))

last_apart : (k : ℕ) (front : List Entry) (e : Entry) → AllByRecursion (λ y. nat_eq k y ≡ false) (keys_of (front ++ e ∷ [])) → nat_eq e.0 k ≡ false
last_apart k [] e h = let apart = h.0 in grind (arith, nat_tests)
last_apart k (x ∷ front) e h = last_apart k front e h.1

found_last : (front : List Entry) (e : Entry) → IsDistinct nat_eq (keys_of (front ++ e ∷ [])) → lookup_entry (nat_eq e.0) (front ++ e ∷ []) ≡ Some e
found_last [] e h = rw (nat_eq_equiv.refl e.0) refl
found_last (x ∷ front) e h =
    rw (last_apart x.0 front e (IsDistinct-head nat_eq x.0 (keys_of (front ++ e ∷ [])) h)) (found_last front e (IsDistinct-tail nat_eq x.0 (keys_of (front ++ e ∷ [])) h))

removed_last : (front : List Entry) (e : Entry) → IsDistinct nat_eq (keys_of (front ++ e ∷ [])) → remove_entry (nat_eq e.0) (front ++ e ∷ []) ≡ front
removed_last [] e h = rw (nat_eq_equiv.refl e.0) refl
removed_last (x ∷ front) e h =
    rw (last_apart x.0 front e (IsDistinct-head nat_eq x.0 (keys_of (front ++ e ∷ [])) h))
    (ap (λ (r : List Entry). x ∷ r) (removed_last front e (IsDistinct-tail nat_eq x.0 (keys_of (front ++ e ∷ [])) h)))

-- it goes before the others
promoted_is : (front : List Entry) (e : Entry) → IsDistinct nat_eq (keys_of (front ++ e ∷ [])) → promoted (nat_eq e.0) (front ++ e ∷ []) ≡ e ∷ front
promoted_is front e h = rw (found_last front e h, removed_last front e h) refl

-- their keys are not its key
apart_from_it : (k : ℕ) (entries : List Entry) → All (λ e. other_key k e ≡ true) entries → AllByRecursion (λ y. nat_eq k y ≡ false) (keys_of entries)
apart_from_it k [] h = tt
apart_from_it k (e ∷ entries) h =
    let first = All-head (λ (x : Entry). other_key k x ≡ true) e entries h in
    (grind (arith, nat_tests), apart_from_it k entries (All-tail (λ (x : Entry). other_key k x ≡ true) e entries h))

All-last : (P : Entry → Type 0) (front : List Entry) (e : Entry) → All P (front ++ e ∷ []) → P e
All-last P [] e h = All-head P e [] h
All-last P (x ∷ front) e h = All-last P front e (All-tail P x (front ++ e ∷ []) h)

turned_queue : (front : List Entry) (e : Entry) (free : ℕ) → IsQueue (front ++ e ∷ []) free → IsQueue (e ∷ front) free
turned_queue front e free h =
    let all = front ++ e ∷ [] in
    let left : filter (other_key e.0) all ≡ front = sym (removed_is e.0 all h.differ) ∙ removed_last front e h.differ in
    let others = subst (λ (es : List Entry). IsQueue es free) left (kept_queue (other_key e.0) all free h) in
    let apart = subst (λ (es : List Entry). All (λ x. other_key e.0 x ≡ true) es) left (filter_passes (other_key e.0) all) in
    record {
      differ = IsDistinct-cons nat_eq e.0 (keys_of front) (apart_from_it e.0 front apart) others.differ;
      own = All-cons (λ (x : Entry). x.0 ≡ x.1.stamp) e front (All-last (λ (x : Entry). x.0 ≡ x.1.stamp) front e h.own) others.own;
      below = All-cons (λ (x : Entry). x.0 < free) e front (All-last (λ (x : Entry). x.0 < free) front e h.below) others.below;
    }

pub pushed_queue : (old new : LruCache ℕ WaitingValue) (cap free : ℕ) (e : ℕ × WaitingValue) → new ≡ lru_cache (promoted (nat_eq e.0) old.entries) old.cap → old.cap ≡ cap → IsQueue old.entries free → last_entry old.entries ≡ Some e
    → (new.cap ≡ cap) × IsQueue new.entries free
pushed_queue old new cap free e is same h last =
    let front = take (length old.entries - 1) old.entries in
    let split = split_last old.entries e last in
    let whole = subst (λ (es : List Entry). IsQueue es free) split h in
    subst (λ (q : LruCache ℕ WaitingValue). (q.cap ≡ cap) × IsQueue q.entries free) (sym is)
    (same, subst (λ (es : List Entry). IsQueue es free) (sym (ap (promoted (nat_eq e.0)) split ∙ promoted_is front e whole.differ)) (turned_queue front e free whole))

-- the first message of a queue, and what a push makes of the queue
pub record IsPushed (entries : List (ℕ × WaitingValue)) (key : ℕ) (m : WaitingValue) (others : List WaitingValue) : Type 0 where
  pub before : queue_of entries ≡ m ∷ others
  pub after : queue_of (promoted (nat_eq key) entries) ≡ others ++ m ∷ []
  pub long : length entries ≡ suc (length others)
  pub own : key ≡ m.stamp

abbrev pub others_of : List (ℕ × WaitingValue) → List WaitingValue
others_of entries = queue_of (take (length entries - 1) entries)

pub is_pushed : (entries : List Entry) (free : ℕ) (e : Entry) → IsQueue entries free → last_entry entries ≡ Some e → IsPushed entries e.0 e.1 (others_of entries)
is_pushed entries free e h last =
    let front = take (length entries - 1) entries in
    let split = split_last entries e last in
    let whole = subst (λ (es : List Entry). IsQueue es free) split h in
    record {
      before = ap queue_of split ∙ first_of_queue front e;
      after = ap queue_of (ap (promoted (nat_eq e.0)) split ∙ promoted_is front e whole.differ) ∙ queue_more e front;
      long = omega (arith, ap length split, length-append front (e ∷ []), length_queue front);
      own = All-last (λ (x : Entry). x.0 ≡ x.1.stamp) front e whole.own;
    }
  where
    first_of_queue : (front : List Entry) (e : Entry) → queue_of (front ++ e ∷ []) ≡ e.1 ∷ queue_of front
    first_of_queue front e = ap reverse (map-append (λ (x : Entry). x.1) front (e ∷ [])) ∙ reverse-append (map (λ (x : Entry). x.1) front) (e.1 ∷ [])

    length_queue : (entries : List Entry) → length (queue_of entries) ≡ length entries
    length_queue entries = length-reverse (map (λ (x : Entry). x.1) entries) ∙ length-map entries (λ (x : Entry). x.1)
