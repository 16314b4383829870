use Rattle.std.specs.Prelude.{Result, Ok, Err, OnOk}
use Rattle.std.proofs.Common.{ℕ}
use Rattle.name_store.specs.declared.intern_fault.InternFault.{InternFault}
use Rattle.change_parts.proofs.Interned.{metas_interned}
use Rattle.change_parts.proofs.assigning.number_key.Goals as goal

on_both : {A B C : Type 0} (r : Result ℕ InternFault) → (A → B → C) → OnOk r A → OnOk r B → OnOk r C
on_both (Ok id) f a b = f a b
on_both (Err fault) f a b = tt

pub returns-then-are_few-clause-metas : goal.returns-then-are_few-clause-metas
returns-then-are_few-clause-metas g c tells =
    on_both c.intern.result (λ is uses. metas_interned (g.S.Reads.state c.args.space.now) (g.S.Reads.state c.intern.new.space) c.args.names.now.names
    c.intern.new.self.names c.args.key.now is uses) (c.intern.ensures.ok tells) c.intern.ensures.names
