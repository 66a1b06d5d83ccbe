-- Texts put one after another.
use Rattle.std.proofs.Common.{◌≡◌, ℕ, ◌+◌, ◌<◌, ◌≤◌, List, [], ◌∷◌, ◌++◌, length, drop, Option, Some, None, Result, Ok, Err, IfErr, refl, sym, ap, ◌∙◌, subst, append_assoc, append-nil, add-one, drop-cons, arith, flat_map, inl, inr, codes, decimal}
use Rattle.std.specs.Str.{encode_utf8_all}
use Rattle.std.proofs.lemmas.List.{drop_all}
use Rattle.std.specs.List.{slice_get}
use Rattle.std.specs.Io.KnownBytes.{Appends}
use Rattle.sms_script.proofs.PacketLemmas.{drop-there}
use Rattle.sms_script.specs.Meaning.Known.{name_of}
use Rattle.sms_field.specs.Address.Text.{address_text}
use Rattle.sms_script.proofs.LineLemmas.{EndsLine-front, AreLines-append}
use Rattle.sms_script.specs.Lines.{EndsLine, AreLines}
use Rattle.sms_script.specs.Play.Puts.{Puts, PutsAtOnce, IsFrontOf}
use Rattle.sms_script.specs.Play.Runs.{nothing_ended, ended_at}
use Rattle.sms_script.specs.Transcript.{Ended, sent_lines, phone_lines, final_lines}
use Rattle.sms_script.specs.Transcript.Escapes.{escaped}
use Rattle.sms_script.specs.Transcript.Lines.{EntryValue, entry_line, line_end, sent_line, store_line}
use Rattle.sms_script.specs.declared.fault.PlayFault.{PlayFault}
use Rattle.sms_script.specs.declared.fault.PlayFault.TheVariants as faults

-- of the whole text this is left to be put, and what was put are lines
abbrev pub Left : Option (List ℕ) → Option (List ℕ) → List ℕ → List ℕ → Type 0
Left a b all rest = (front : List ℕ) × AreLines front × (all ≡ front ++ rest) × Appends a b front

pub Appends-none : (a : Option (List ℕ)) → Appends a a []
Appends-none None = tt
Appends-none (Some x) = sym (append-nil x)

pub Appends-both : (a b c : Option (List ℕ)) (xs ys : List ℕ) → Appends a b xs → Appends b c ys → Appends a c (xs ++ ys)
Appends-both None b c xs ys p q = tt
Appends-both (Some x) None c xs ys p q = absurd p
Appends-both (Some x) (Some y) None xs ys p q = absurd q
Appends-both (Some x) (Some y) (Some z) xs ys p q = q ∙ ap (λ l. l ++ ys) p ∙ append_assoc x xs ys

-- the whole text was put
pub puts_all : (a b : Option (List ℕ)) (text : List ℕ) → Puts a b text (Ok tt) → Appends a b text
puts_all a b text h = subst (λ (l : List ℕ). Appends a b l) h.1 h.2

-- nothing was put for want of memory
pub puts_none : (a : Option (List ℕ)) (text : List ℕ) → Puts a a text (Err faults.Memory)
puts_none a text = ([], ((text, refl), inl refl), Appends-none a)

-- a text that was put by writing alone
pub at_once : (a b : Option (List ℕ)) (text : List ℕ) (result : Result (Unit {0}) PlayFault) → Puts a b text result → IfErr result (λ fault. fault ≡ faults.Write) → PutsAtOnce a b text result
at_once a b text (Ok done) h is = h
at_once a b text (Err faults.Write) h is = h
at_once a b text (Err faults.Read) h is = h
at_once a b text (Err (faults.Script n why)) h is = h
at_once a b text (Err faults.Memory) h is = absurd (no is)
  where
    no : faults.Memory ≡ faults.Write → ⊥
    no e = cc e

pub left_start : (a : Option (List ℕ)) (all : List ℕ) → Left a a all all
left_start a all = ([], inl refl, refl, Appends-none a)

pub left_more : (a b c : Option (List ℕ)) (all now line rest : List ℕ) → AreLines line → now ≡ line ++ rest → Left a b all now → Puts b c line (Ok tt) → Left a c all rest
left_more a b c all now line rest are e h p = (
  h.0 ++ line,
  AreLines-append h.0 line h.1 are,
  h.2 ∙ ap (λ l. h.0 ++ l) e ∙ sym (append_assoc h.0 line rest),
  Appends-both a b c h.0 line h.3 (puts_all b c line p),
)

pub left_end : (a b : Option (List ℕ)) (all : List ℕ) → Left a b all [] → Puts a b all (Ok tt)
left_end a b all h = (h.0, sym (h.2 ∙ append-nil h.0), h.3)

-- some first octets of what is left are some first ones of the whole
left_front : (a b : Option (List ℕ)) (all now line rest front : List ℕ) → now ≡ line ++ rest → (h : Left a b all now) → IsFrontOf line front → IsFrontOf all (h.0 ++ front)
left_front a b all now line rest front e h f = (
  f.0 ++ rest,
  h.2 ∙ ap (λ l. h.0 ++ l) e ∙ ap (λ l. h.0 ++ (l ++ rest)) f.1 ∙ ap (λ l. h.0 ++ l) (append_assoc front f.0 rest) ∙ sym (append_assoc h.0 front (f.0 ++ rest)),
)

-- a fault inside the next line
pub left_fault : (a b c : Option (List ℕ)) (all now line rest : List ℕ) (fault : PlayFault) → now ≡ line ++ rest → Left a b all now → Puts b c line (Err fault) → Puts a c all (Err fault)
left_fault a b c all now line rest faults.Write e h p =
    (h.0 ++ p.0, left_front a b all now line rest p.0 e h p.1, Appends-both a b c h.0 p.0 h.3 p.2)
left_fault a b c all now line rest faults.Memory e h p =
    (h.0 ++ p.0, (left_front a b all now line rest p.0 e h p.1.0, AreLines-append h.0 p.0 h.1 p.1.1), Appends-both a b c h.0 p.0 h.3 p.2)
left_fault a b c all now line rest faults.Read e h p = absurd p.1
left_fault a b c all now line rest (faults.Script n why) e h p = absurd p.1

-- the last line, whatever came of it
pub left_last : (a b c : Option (List ℕ)) (all line : List ℕ) (result : Result (Unit {0}) PlayFault) → Left a b all line → Puts b c line result → Puts a c all result
left_last a b c all line (Ok done) h p = (h.0 ++ line, sym h.2, Appends-both a b c h.0 line h.3 (puts_all b c line p))
left_last a b c all line (Err fault) h p = left_fault a b c all line line [] fault (sym (append-nil line)) h p

pub three_left : (a : Option (List ℕ)) (xs ys zs : List ℕ) → Left a a (xs ++ ys ++ zs) (xs ++ (ys ++ zs))
three_left a xs ys zs = ([], inl refl, append_assoc xs ys zs, Appends-none a)

ends_itself : EndsLine line_end
ends_itself = ([], refl)

pub sent_line_ends : (name : List ℕ) (number : ℕ) (word : List ℕ) → AreLines (sent_line name number word)
sent_line_ends name number word =
    inr (EndsLine-front (codes "sent ") _ (EndsLine-front name _ (EndsLine-front (codes " ") _ (EndsLine-front (decimal number) _ (EndsLine-front (codes " ") _ (EndsLine-front word line_end ends_itself))))))

pub store_line_ends : (name : List ℕ) (count : ℕ) → AreLines (store_line name count)
store_line_ends name count =
    inr (EndsLine-front (codes "store ") _ (EndsLine-front name _ (EndsLine-front (codes " ") _ (EndsLine-front (decimal count) line_end ends_itself))))

pub entry_line_ends : (entry : EntryValue) → AreLines (entry_line entry)
entry_line_ends entry =
    inr (EndsLine-front (escaped (encode_utf8_all (address_text entry.origin))) _ (EndsLine-front (codes " ") _ (EndsLine-front (escaped entry.text) line_end ends_itself)))

pub sent_lines_end : (name : List ℕ) (number : ℕ) (words : List (List ℕ)) → AreLines (sent_lines name number words)
sent_lines_end name number [] = inl refl
sent_lines_end name number (word ∷ words) =
    AreLines-append (sent_line name number word) (sent_lines name (number + 1) words) (sent_line_ends name number word) (sent_lines_end name (number + 1) words)

pub entry_lines_end : (entries : List EntryValue) → AreLines (flat_map entry_line entries)
entry_lines_end [] = inl refl
entry_lines_end (entry ∷ entries) =
    AreLines-append (entry_line entry) (flat_map entry_line entries) (entry_line_ends entry) (entry_lines_end entries)

pub phone_lines_end : (name : List ℕ) (ended : Ended) → AreLines (phone_lines name ended)
phone_lines_end name ended =
    AreLines-append (sent_lines name 1 ended.statuses ++ store_line name (length ended.store)) (flat_map entry_line ended.store)
    (AreLines-append (sent_lines name 1 ended.statuses) (store_line name (length ended.store)) (sent_lines_end name 1 ended.statuses) (store_line_ends name (length ended.store)))
    (entry_lines_end ended.store)

pub statuses_left : (name : List ℕ) (statuses : List (List ℕ)) (place : ℕ) (word : List ℕ) → slice_get statuses place ≡ Some word
    → sent_lines name (place + 1) (drop place statuses) ≡ sent_line name (place + 1) word ++ sent_lines name (place + 1 + 1) (drop (place + 1) statuses)
statuses_left name statuses place word e = rw (drop-there statuses place word e) refl

pub no_statuses_left : (name : List ℕ) (statuses : List (List ℕ)) (place : ℕ) → length statuses ≤ place → sent_lines name (place + 1) (drop place statuses) ≡ []
no_statuses_left name statuses place h = rw (drop_all place statuses h) refl

pub entries_left : (entries : List EntryValue) (place : ℕ) (entry : EntryValue) → slice_get entries place ≡ Some entry
    → flat_map entry_line (drop place entries) ≡ entry_line entry ++ flat_map entry_line (drop (place + 1) entries)
entries_left entries place entry e = rw (drop-there entries place entry e) refl

pub no_entries_left : (entries : List EntryValue) (place : ℕ) → length entries ≤ place → flat_map entry_line (drop place entries) ≡ []
no_entries_left entries place h = rw (drop_all place entries h) refl

pub phones_left : (names : List (List ℕ)) (ends : List Ended) (phone : ℕ) → phone < length names → length names ≡ length ends
    → final_lines (drop phone names) (drop phone ends) ≡ phone_lines (name_of names phone) (ended_at ends phone) ++ final_lines (drop (phone + 1) names) (drop (phone + 1) ends)
unfolding final_lines
phones_left names ends phone h e =
    let below : phone < length ends = omega arith in
    rw (drop-cons names phone [] h, drop-cons ends phone nothing_ended below, add-one) refl

pub no_phones_left : (names : List (List ℕ)) (ends : List Ended) (phone : ℕ) → length names ≤ phone → final_lines (drop phone names) (drop phone ends) ≡ []
unfolding final_lines
no_phones_left names ends phone h = rw (drop_all phone names h) refl
