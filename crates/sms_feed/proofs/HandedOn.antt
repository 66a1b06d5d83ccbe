-- A line that is handed on, with what is written before and after it.
use Rattle.std.proofs.Common.{inl, inr, ℕ, false, List, length, take, Option}
use Rattle.sms_page.specs.Page.{PageValue}
use Rattle.sms_feed.specs.Shown.{Stays}
use Rattle.sms_feed.specs.Takers.{Takes, Hands, HandsOnce, HandsOne, Standing, standing}
use Rattle.sms_feed.proofs.Staying.{stays_same, stays_then}

pub hands_once : {T : Type 0} (takes : Takes T) (old new : T) (n : ℕ) (line : Option (List ℕ)) (written : Option (List ℕ)) (page page_then : PageValue)
    → Hands takes old n line page new page_then → HandsOne takes (standing old written page) n line (standing new written page_then)
hands_once takes old new n line written page page_then hands =
    inl (record { written = written; page = page; before = stays_same written page; page_then = page_then; hands = hands; after = stays_same written page_then })

once_then : {T : Type 0} (takes : Takes T) (old : Standing T) (n : ℕ) (line : Option (List ℕ)) (new : T) (w2 : Option (List ℕ)) (p2 : PageValue) (w3 : Option (List ℕ)) (p3 : PageValue)
    → HandsOnce takes old n line (standing new w2 p2) → Stays w2 p2 w3 p3 → HandsOnce takes old n line (standing new w3 p3)
once_then takes old n line new w2 p2 w3 p3 h s =
    record { written = h.written; page = h.page; before = h.before; page_then = h.page_then; hands = h.hands; after = stays_then h.written h.page_then w2 p2 w3 p3 h.after s }

once_after : {T : Type 0} (takes : Takes T) (old : T) (w0 : Option (List ℕ)) (p0 : PageValue) (w1 : Option (List ℕ)) (p1 : PageValue) (n : ℕ) (line : Option (List ℕ)) (new : Standing T)
    → Stays w0 p0 w1 p1 → HandsOnce takes (standing old w1 p1) n line new → HandsOnce takes (standing old w0 p0) n line new
once_after takes old w0 p0 w1 p1 n line new s h =
    record { written = h.written; page = h.page; before = stays_then w0 p0 w1 p1 h.written h.page s h.before; page_then = h.page_then; hands = h.hands; after = h.after }

pub one_then : {T : Type 0} (takes : Takes T) (old : Standing T) (n : ℕ) (line : Option (List ℕ)) (new : T) (w2 : Option (List ℕ)) (p2 : PageValue) (w3 : Option (List ℕ)) (p3 : PageValue)
    → HandsOne takes old n line (standing new w2 p2) → Stays w2 p2 w3 p3 → HandsOne takes old n line (standing new w3 p3)
one_then takes old n line new w2 p2 w3 p3 (inl h) s = inl (once_then takes old n line new w2 p2 w3 p3 h s)
one_then takes old n line new w2 p2 w3 p3 (inr h) s =
    inr (record {
      written = h.written;
      page = h.page;
      before = h.before;
      was_whole = h.was_whole;
      between = h.between;
      lost = h.lost;
      hands = h.hands;
      cut = h.cut;
      second = once_then takes (record { taker = h.between; written = h.written; page = record { octets = take (length h.page.octets) h.lost.octets; is_cut = false } }) n line new w2 p2 w3 p3 h.second s;
    })

pub one_after : {T : Type 0} (takes : Takes T) (old : T) (w0 : Option (List ℕ)) (p0 : PageValue) (w1 : Option (List ℕ)) (p1 : PageValue) (n : ℕ) (line : Option (List ℕ)) (new : Standing T)
    → Stays w0 p0 w1 p1 → HandsOne takes (standing old w1 p1) n line new → HandsOne takes (standing old w0 p0) n line new
one_after takes old w0 p0 w1 p1 n line new s (inl h) = inl (once_after takes old w0 p0 w1 p1 n line new s h)
one_after takes old w0 p0 w1 p1 n line new s (inr h) =
    inr (record {
      written = h.written;
      page = h.page;
      before = stays_then w0 p0 w1 p1 h.written h.page s h.before;
      was_whole = h.was_whole;
      between = h.between;
      lost = h.lost;
      hands = h.hands;
      cut = h.cut;
      second = h.second;
    })
