-- 01 (a), of each public call here: two outcomes that its contract allows are the same.
use Rattle.std.proofs.Common.{◌≡◌, sym, ◌∙◌}
use Rattle.arith.proofs.floats.of_bits.Reads as of-bits
use Rattle.arith.proofs.floats.to_bits.Reads as to_bits
use Rattle.arith.proofs.floats.minimum.Reads as minimum
use Rattle.arith.proofs.floats.maximum.Reads as maximum
use Rattle.arith.proofs.floats.absolute.Reads as absolute
use Rattle.arith.proofs.floats.clamp.Reads as clamp
use Rattle.arith.proofs.whole.of_u64.Reads as of-u64
use Rattle.arith.proofs.whole.truncate.Reads as truncate
use Rattle.arith.proofs.root.sqrt.Reads as sqrt
use Rattle.arith.proofs.logarithm.ln_1p.Reads as ln-1p

pub of_bits_decides : (κs : _) (a : _) (one other : _) (e f : _) → of-bits.Post κs a one e → of-bits.Post κs a other f → one ≡ other
of_bits_decides κs a one other e f p q = p ∙ sym q

pub to_bits_decides : (κs : _) (a : _) (one other : _) (e f : _) → to_bits.Post κs a one e → to_bits.Post κs a other f → one ≡ other
to_bits_decides κs a one other e f p q = p ∙ sym q

pub minimum_decides : (κs : _) (a : _) (one other : _) (e f : _) → minimum.Post κs a one e → minimum.Post κs a other f → one ≡ other
minimum_decides κs a one other e f p q = p ∙ sym q

pub maximum_decides : (κs : _) (a : _) (one other : _) (e f : _) → maximum.Post κs a one e → maximum.Post κs a other f → one ≡ other
maximum_decides κs a one other e f p q = p ∙ sym q

pub absolute_decides : (κs : _) (a : _) (one other : _) (e f : _) → absolute.Post κs a one e → absolute.Post κs a other f → one ≡ other
absolute_decides κs a one other e f p q = p ∙ sym q

pub clamp_decides : (κs : _) (a : _) (one other : _) (e f : _) → clamp.Post κs a one e → clamp.Post κs a other f → one ≡ other
clamp_decides κs a one other e f p q = p ∙ sym q

pub of_u64_decides : (κs : _) (a : _) (one other : _) (e f : _) → of-u64.Post κs a one e → of-u64.Post κs a other f → one ≡ other
of_u64_decides κs a one other e f p q = p ∙ sym q

pub truncate_decides : (κs : _) (a : _) (one other : _) (e f : _) → truncate.Post κs a one e → truncate.Post κs a other f → one ≡ other
truncate_decides κs a one other e f p q = p ∙ sym q

pub sqrt_decides : (κs : _) (a : _) (one other : _) (e f : _) → sqrt.Post κs a one e → sqrt.Post κs a other f → one ≡ other
sqrt_decides κs a one other e f p q = p ∙ sym q

pub ln_1p_decides : (κs : _) (a : _) (one other : _) (e f : _) → ln-1p.Post κs a one e → ln-1p.Post κs a other f → one ≡ other
ln_1p_decides κs a one other e f p q = p ∙ sym q
