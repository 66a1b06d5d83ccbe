use Rattle.std.proofs.Common.{◌≡◌, ℕ, ◌++◌, List, length, map, arith, ap}
use Rattle.std.specs.Global.{Vec}
use Rattle.sms_world.specs.Inside.Parties.{on_way}
use Rattle.sms_world.proofs.Ways.{kept_one, kept_all}
use Rattle.sms_world.proofs.world.sent_packets.SentPackets.keep.Goals as goal

pub loop-octets-init : goal.loop-octets-init
loop-octets-init c =
    let e : c.into_iter-octets-iterator.result ≡ c.args.step.packets.items = cc in (
      ap (λ (ps : List (Vec ℕ)). c.args.self.now.items ++ on_way c.args.up c.args.phone (map (λ (p : Vec ℕ). p.items) ps)) e,
      rw e c.requires,
    )

pub push-requires : goal.push-requires
push-requires c =
    let e = ap (λ (ps : List (Vec ℕ)). length ps) (c.in-Some.ensures.steps) in
    omega (arith, e, c.loop-octets.invariant.1)

pub loop-octets-preserved : goal.loop-octets-preserved
loop-octets-preserved c = (
  kept_one c.args.up c.args.phone c.loop-octets.self.items c.push.new.self.items c.in-Some.octets c.loop-octets.octets-iterator c.next.new.self _
      c.in-Some.ensures.steps c.push.ensures.items c.loop-octets.invariant.0,
  let e = ap (λ (ps : List (Vec ℕ)). length ps) (c.in-Some.ensures.steps) in
      omega (arith, e, c.loop-octets.invariant.1, c.push.ensures.room),
)

pub returns-clause-packets : goal.returns-clause-packets
returns-clause-packets c =
    kept_all c.args.up c.args.phone c.loop-octets.self.items c.loop-octets.octets-iterator _
    (ap (λ (ps : List (Vec ℕ)). length ps) c.in-None.ensures.steps.0) c.loop-octets.invariant.0
