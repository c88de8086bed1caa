-- The code compares the numbers first and the name last, and the model's fields begin with the name.
use Rattle.std.proofs.Common.{◌≡◌, Bool, true, false, ◌&&◌, ◌∙◌, ap, refl, nat_eq, int_eq}
use denote.Enum.Bare.{sameb}
use Rattle.rv_isa.specs.contracts.op.Op.{the_type}
use Rattle.rv_isa.specs.Table.{Fields}
use Rattle.rv_isa.proofs.instr.InstrPartialEq.eq.Goals as goal

last_first : (a b c d name : Bool) → ((((a && b) && c) && d) && name) ≡ (name && (a && (b && (c && d))))
last_first true true true true true = refl
last_first true true true true false = refl
last_first true true true false true = refl
last_first true true true false false = refl
last_first true true false d true = refl
last_first true true false d false = refl
last_first true false c d true = refl
last_first true false c d false = refl
last_first false b c d true = refl
last_first false b c d false = refl

-- equality, field by field
abbrev same : Fields → Fields → Bool
same x y = sameb the_type x.op y.op && (nat_eq x.rd y.rd && (nat_eq x.rs1 y.rs1 && (nat_eq x.rs2 y.rs2 && int_eq x.imm y.imm)))

pub returns : goal.returns
returns c =
    let x = c.t1-1.inside in
    let y = c.t2-1.inside in
    let rd = nat_eq x.rd y.rd in
    let rs1 = nat_eq x.rs1 y.rs1 in
    let rs2 = nat_eq x.rs2 y.rs2 in
    let imm = int_eq x.imm y.imm in
    let op = sameb the_type x.op y.op in
    c.and_eq-4.ensures
    ∙ ap (λ t. t && op) (c.and_eq-3.ensures ∙ ap (λ t. t && imm) (c.and_eq-2.ensures ∙ ap (λ t. t && rs2) (c.and_eq.ensures ∙ ap (λ t. t && rs1) c.eq.ensures)))
    ∙ last_first rd rs1 rs2 imm op
    ∙ ap (λ v. same v (record { op = y.op; rd = y.rd; rs1 = y.rs1; rs2 = y.rs2; imm = y.imm })) c.t1-1.view_is
    ∙ ap (λ w. same c.args.self.now w) c.t2-1.view_is
