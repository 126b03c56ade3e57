use Rattle.std.proofs.Common.{arith}
use Rattle.language.specs.Integers.{u8, u16, u32, u64}
use Rattle.wide.proofs.Words.{size_case, too_large_lem}
use Rattle.wide.proofs.Wide.smallest.Goals as goal

pub returns-then-hi-gt0 : goal.returns-then-hi-gt0
returns-then-hi-gt0 c = too_large_lem _ (omega arith)

pub returns-then-lo-lt256 : goal.returns-then-lo-lt256
returns-then-lo-lt256 c = size_case u8 _ _ (omega arith) (omega arith) (omega arith)

pub returns-then-lo-lt65536 : goal.returns-then-lo-lt65536
returns-then-lo-lt65536 c = size_case u16 _ _ (omega arith) (omega arith) (omega arith)

pub returns-then-lo-lt4294967296 : goal.returns-then-lo-lt4294967296
returns-then-lo-lt4294967296 c = size_case u32 _ _ (omega arith) (omega arith) (omega arith)

pub returns : goal.returns
returns c = size_case u64 _ _ (omega arith) (omega arith) (omega arith)
