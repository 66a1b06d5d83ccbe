use Rattle.std.proofs.Common.{◌≡◌, ◌+◌, ◌-◌, ◌<◌, ◌++◌, ◌||◌, nat_lt, ℕ, List, Bool, length, take, drop, refl, sym, ap, ◌∙◌, arith, length-drop}
use Rattle.std.proofs.lemmas.List.{length-take-le}
use Rattle.sms_script.specs.Lines.{line_limit}
use Rattle.sms_feed.specs.Inside.Room.{kept}
use Rattle.sms_feed.specs.Feed.{FeedValue}
use Rattle.sms_feed.proofs.FeedLemmas.{kept_awaits, kept_known, read_awaits}
use Rattle.sms_feed.proofs.RoomLemmas.{from_front, front_more}
use Rattle.sms_feed.proofs.feed.Feed.read_more.Goals as goal

pub returns-in_err-count-clause-awaits : goal.returns-in_err-count-clause-awaits
returns-in_err-count-clause-awaits g c octets awaits =
    let feed = c.args.self.now in
    let inside = c.self.inside in
    let room = c.read_behind.new.room.items in
    let left_is : feed.left ≡ take (inside.end - inside.start) (drop inside.start inside.room.items) = sym (ap (λ v. v.left) c.self.view_is) in
    let size : length feed.left ≡ inside.end - inside.start = ap length left_is ∙ length-take-le (inside.end - inside.start) (drop inside.start inside.room.items) (omega (arith, length-drop inside.start inside.room.items, c.self.invariant)) in
    let left = from_front room c.keep-self-inside.result ∙ c.read_behind.ensures.kept ∙ c.keep-self-inside.ensures.kept ∙ ap kept (sym left_is) in
    let long = ap (λ (b : Bool). b || nat_lt (line_limit + 1) (inside.end - inside.start)) (ap (λ v. v.is_long) c.self.view_is) ∙ ap (λ (n : ℕ). feed.is_long || nat_lt (line_limit + 1) n) (sym size) in
    kept_known _ _ _ octets c.in_err-count.ensures.octets (kept_awaits feed _ _ octets c.requires left long (ap (λ v. v.has_ended) c.self.view_is) awaits)

pub returns-clause-awaits : goal.returns-clause-awaits
returns-clause-awaits g c octets awaits =
    let feed = c.args.self.now in
    let inside = c.self.inside in
    let room = c.read_behind.new.room.items in
    let count = c.keep-self-inside.result in
    let left_is : feed.left ≡ take (inside.end - inside.start) (drop inside.start inside.room.items) = sym (ap (λ v. v.left) c.self.view_is) in
    let size : length feed.left ≡ inside.end - inside.start = ap length left_is ∙ length-take-le (inside.end - inside.start) (drop inside.start inside.room.items) (omega (arith, length-drop inside.start inside.room.items, c.self.invariant)) in
    let left : take count room ≡ kept feed.left = c.read_behind.ensures.kept ∙ c.keep-self-inside.ensures.kept ∙ ap kept (sym left_is) in
    let long = ap (λ (b : Bool). b || nat_lt (line_limit + 1) (inside.end - inside.start)) (ap (λ v. v.is_long) c.self.view_is) ∙ ap (λ (n : ℕ). feed.is_long || nat_lt (line_limit + 1) n) (sym size) in
    let between : FeedValue = record feed { left = kept feed.left; is_long = feed.is_long || nat_lt (line_limit + 1) (length feed.left) } in
    let some : 0 < length (drop count room) = omega (arith, length-drop count room, c.read_behind.ensures.room, c.keep-self-inside.ensures.room, c.keep-self-inside.ensures.few, c.self.invariant) in
    let read = c.in_ok-count.ensures.octets in
    read_awaits between _ _ _ octets c.in_ok-count.count (drop count room) (front_more room count c.in_ok-count.count ∙ ap (λ (l : List ℕ). l ++ take c.in_ok-count.count (drop count room)) left) long refl read.0 read.1 some
    (kept_awaits feed between _ octets c.requires refl refl refl awaits)
