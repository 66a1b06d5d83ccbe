use Rattle.std.proofs.Common.{refl}
use Rattle.sms_text.proofs.SameLanes.{low_ok, high_ok, same_lanes}
use Rattle.sms_text.proofs.same.are_lanes_same.Goals as goal

pub swizzle-low : goal.swizzle-low
swizzle-low c = low_ok c.args.codes c.fits-codes.0 c.fits-codes.1

pub swizzle-high : goal.swizzle-high
swizzle-high c = high_ok c.args.codes c.fits-codes.0 c.fits-codes.1

pub returns : goal.returns
returns c none = same_lanes c.args.codes _ _ c.fits-codes.0 c.fits-codes.1 refl refl none
