-- The bytes of a reply without a mark, read by the definitions.
use Rattle.std.proofs.Common.{◌≡◌, ℕ, [], List, ◌++◌, flat_map, codes, decimal, refl}
use Rattle.plain_graph.specs.Reply.{Done, Fault, Faulted, NodeMade, Refused, Told, fault_line, prefixed_line, refusal_text, reply_text, text_line}
use Rattle.plain_graph.specs.declared.refusal.Refusal.{Refusal}

lines-unmarked : (lines : List (List ℕ)) → flat_map (prefixed_line []) lines ≡ flat_map text_line lines
lines-unmarked lines = refl

done-unmarked : reply_text Done ≡ text_line (codes "ok")
done-unmarked = refl

node-unmarked : (id : ℕ) → reply_text (NodeMade id) ≡ text_line (codes "node " ++ decimal id)
node-unmarked id = refl

told-unmarked : (lines : List (List ℕ)) (last : List ℕ) → reply_text (Told lines last) ≡ flat_map text_line lines ++ text_line last
told-unmarked lines last = refl

faulted-unmarked : (lines : List (List ℕ)) (fault : Fault) → reply_text (Faulted lines fault) ≡ flat_map text_line lines ++ fault_line fault
faulted-unmarked lines fault = refl

refused-unmarked : (why : Refusal) → reply_text (Refused why) ≡ text_line (refusal_text why)
refused-unmarked why = refl
