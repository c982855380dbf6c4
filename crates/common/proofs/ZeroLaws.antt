-- Lists of zeros.
use Prim.Native.Nat.{ℕ}
use lib.ListN.{replicate, length-replicate}
use Rattle.common.proofs.ListLaws.{get_d_all}
use Rattle.common.specs.Zeros.{AllZero}

pub all_zero : (n : ℕ) → AllZero n (replicate n 0)
all_zero n =
    record {
      long = length-replicate n 0;
      zeros = get_d_all n 0;
    }
