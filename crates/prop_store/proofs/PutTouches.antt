-- What putting a property touches.
use Rattle.std.proofs.Common.{◌≡◌, ℕ, ◌+◌, List, [], ◌∷◌, length, map, subst, arith}
use Rattle.plain_graph.specs.Properties.{blocks_of}
use Rattle.plain_graph.specs.declared.value.Value.{Value}
use Rattle.rec_bytes.specs.declared.record.Rec.{Rec}
use Rattle.rec_bytes.specs.Format as format
use Rattle.rec_bytes.specs.RecordFiles.{meta_key_of}
use Rattle.rec_bytes.specs.Space.{SameButReads, State, after_put}
use Rattle.store_rules.specs.Properties.{long_text}
use Rattle.store_rules.specs.Views.{key_in}
use Rattle.prop_store.specs.FileChange.{blocks_for}
use Rattle.prop_store.specs.Touching.{TouchesOnly, TouchesProperties}
use Rattle.prop_store.proofs.PutSteps.{blocks_needed}
use Rattle.prop_store.proofs.Touches.{touches_freed, touches_property_taken, touches_put, touches_then}

-- the blocks of a value
pub touches_text : {tells : Type 0} (s t : State) (value : Value) (text : List ℕ) → text ≡ long_text value
    → TouchesProperties tells [] 0 (blocks_for (length text)) s t → TouchesProperties tells [] 0 (blocks_of value) s t
touches_text {tells = tells} s t value text text_is h = subst (λ n. TouchesProperties tells [] 0 n s t) (blocks_needed value text text_is) h

-- after them the identifier of a new property, and its record
pub touches_text_taken : {tells : Type 0} (s a b : State) (value : Value) (text : List ℕ) → text ≡ long_text value
    → TouchesProperties tells [] 0 (blocks_for (length text)) s a → TouchesOnly tells a b (meta_key_of format.properties_file ∷ [])
    → TouchesProperties tells [] 0 (blocks_of value) s b
touches_text_taken s a b value text text_is h g = touches_then [] 0 (blocks_of value) 0 0 0 (blocks_of value) s a b (omega arith) (omega arith)
    (touches_text s a value text text_is h) (touches_property_taken a b g)

pub touches_new : {tells : Type 0} (n m : ℕ) (s t u : State) (id : ℕ) (rec : Rec) → TouchesProperties tells [] n m s t
    → u ≡ after_put t (key_in format.properties_file id) rec → TouchesProperties tells [] (n + 1) m s u
touches_new n m s t u id rec h is = touches_then [] n m 1 0 (n + 1) m s t u (omega arith) (omega arith) h (touches_put t u id rec is)

-- the blocks that a property had, and those that it has
pub touches_texts : {tells : Type 0} (s a b t : State) (value : Value) (ids text : List ℕ) → text ≡ long_text value → SameButReads s a
    → TouchesOnly tells a b (meta_key_of format.strings_file ∷ map (key_in format.strings_file) ids)
    → TouchesProperties tells [] 0 (blocks_for (length text)) b t → TouchesProperties tells [] 0 (blocks_of value + length ids) s t
touches_texts s a b t value ids text text_is same freed h =
    touches_then [] 0 (length ids) 0 (blocks_of value) 0 (blocks_of value + length ids) s b t (omega arith) (omega arith) (touches_freed s a b ids same freed)
    (touches_text b t value text text_is h)
