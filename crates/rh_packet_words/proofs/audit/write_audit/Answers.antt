-- the faults, and then what is told of each direction
use Rattle.std.proofs.Common.{◌++◌, codes, string_bytes, Err}
use Rattle.std.proofs.lemmas.Result.{err_from_is_err_and}
use Rattle.rh_text.proofs.Appending.{writes_both, writes_one}
use Rattle.rh_packet_words.specs.AuditTexts.{faults_text, prefixed_text}
use Rattle.rh_packet_words.proofs.audit.write_audit.Goals as goal

pub returns-in_err-write_faults : goal.returns-in_err-write_faults
returns-in_err-write_faults c =
    let p = err_from_is_err_and c.from_residual.result c.from_residual.ensures.1 in
    let told = c.args.told.now in
    rw p.1 (writes_one (faults_text told.faults.items)
    ((codes "up" ++ prefixed_text told.up) ++ (codes "down" ++ prefixed_text told.down))
    p.0 (string_bytes c.args.out.now) (string_bytes c.write_faults.new.out)
    (rw c.deref.ensures.value at c.in_err-write_faults.ensures))

pub returns-in_err-write_prefixed : goal.returns-in_err-write_prefixed
returns-in_err-write_prefixed c =
    let residual = c.from_residual-in_err-write_prefixed in
    let p = err_from_is_err_and residual.result residual.ensures.1 in
    let told = c.args.told.now in
    let up = codes "up" ++ prefixed_text told.up in
    let down = codes "down" ++ prefixed_text told.down in
    let faulty = string_bytes c.write_faults.new.out in
    rw p.1 (writes_both (faults_text told.faults.items) (up ++ down) (Err p.0)
    (string_bytes c.args.out.now) faulty (string_bytes c.write_prefixed.new.out)
    (rw c.deref.ensures.value at c.in_ok-write_faults.ensures)
    (writes_one up down p.0 faulty (string_bytes c.write_prefixed.new.out)
    c.in_err-write_prefixed.ensures))

pub returns : goal.returns
returns c =
    let told = c.args.told.now in
    let up = codes "up" ++ prefixed_text told.up in
    let down = codes "down" ++ prefixed_text told.down in
    let faulty = string_bytes c.write_faults.new.out in
    let last = c.write_prefixed-2 in
    writes_both (faults_text told.faults.items) (up ++ down) last.result
    (string_bytes c.args.out.now) faulty (string_bytes last.new.out)
    (rw c.deref.ensures.value at c.in_ok-write_faults.ensures)
    (writes_both up down last.result faulty (string_bytes c.write_prefixed.new.out)
    (string_bytes last.new.out) c.in_ok-write_prefixed.ensures last.ensures)
