use Rattle.gt_explore_races.proofs.Accessing.{by-last, by-read, by-writes, told}
use Rattle.gt_explore_races.proofs.accesses.conflict.Goals as goal

pub returns-then-share_byte : goal.returns-then-share_byte
returns-then-share_byte c =
    by-writes c.args.first c.args.second
    ((told c.share_byte.result _ _ _ _ c.bytes_written-written.ensures c.bytes_written.ensures c.share_byte.ensures).0 c.if-share_byte.true)

pub returns-then-share_byte-2 : goal.returns-then-share_byte-2
returns-then-share_byte-2 c =
    by-read c.args.first c.args.second
    ((told c.share_byte-2.result _ _ _ _ c.bytes_written-written.ensures c.bytes_read.ensures c.share_byte-2.ensures).0 c.if-share_byte-2.true)

pub returns : goal.returns
returns c =
    by-last c.args.first c.args.second c.share_byte.result c.share_byte-2.result c.share_byte-3.result
    (told c.share_byte.result _ _ _ _ c.bytes_written-written.ensures c.bytes_written.ensures c.share_byte.ensures) c.if-share_byte.false
    (told c.share_byte-2.result _ _ _ _ c.bytes_written-written.ensures c.bytes_read.ensures c.share_byte-2.ensures) c.if-share_byte-2.false
    (told c.share_byte-3.result _ _ _ _ c.bytes_read-2.ensures c.bytes_written-2.ensures c.share_byte-3.ensures)
