use Rattle.std.proofs.Common.{◌≡◌, ◌/◌, ◌%◌, arith}
use Rattle.rio_chars.proofs.WrittenLaws.{Writes-then}
use Rattle.io_memory.proofs.met_lines.write_access.Goals as goal

pub returns : goal.returns
returns g c =
    let name = Writes-then _ _ c.write.ensures c.write-2.ensures in
    let top : c.args.addr / 0x1000000 % 0x100 ≡ c.args.addr / 0x1000000 =
    omega (arith, c.ranges.addr.fits) in
    let digits = rw (c.to_be_bytes.ensures, top) at c.write_hex.ensures in
    let load = rw c.as_slice.ensures.value at c.write_hex-2.ensures in
    let addr = Writes-then _ _ (Writes-then _ _ name c.write-3.ensures) digits in
    Writes-then _ _ (Writes-then _ _ (Writes-then _ _ addr c.write-4.ensures) load)
    c.write-5.ensures
