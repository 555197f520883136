use Rattle.probe_scan.proofs.Padding.{scan_pieces}
use Rattle.probe_scan.proofs.batch.put_scan.Goals as goal

pub returns : goal.returns
returns c = scan_pieces c.args.ir c.args.ask c.args.before c.args.after c.args.bits _ c.push_to_shift.new.batch c.push_pads.new.batch c.push_bits.new.batch
    c.push_pads-2.new.batch _ c.requires.some c.requires.empty c.push_to_shift.ensures.bytes c.push_pads.ensures.bytes c.push_bits.ensures.bytes
    c.push_pads-2.ensures.bytes c.push_path.ensures.bytes
