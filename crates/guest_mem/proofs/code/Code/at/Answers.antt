use Rattle.std.proofs.Common.{◌+◌, ◌-◌, ◌/◌, ◌%◌, ap, sym, ◌∙◌, arith}
use Rattle.std.proofs.lemmas.List.{get_or_read_under}
use Rattle.rv_isa.specs.Table.{Fields}
use Rattle.guest_mem.specs.Code.{look_again}
use Rattle.guest_mem.proofs.code.Code.at.Goals as goal

pub returns-in_default : goal.returns-in_default
returns-in_default c =
    let code = c.self.inside in
    let offset = (c.args.pc + (4294967296 - code.start)) % 4294967296 in
    rw (← c.self.view_is) (record {
      k = offset / 4;
      within = omega (arith, c.if-k-len.false, c.len.ensures, code.entries.ok);
      at = omega (arith, c.if-offset-ne0.false);
      is = sym (get_or_read_under code.entries.items (offset / 4) c.len.result c.index-i.result.now look_again c.index-i.ensures (omega (arith, c.if-k-len.false)) (omega (arith, c.len.ensures, code.entries.ok)));
      other = λ e. c.in_default.not-Ebreak (ap (λ (f : Fields). f.op) c.i.view_is ∙ e);
    })
