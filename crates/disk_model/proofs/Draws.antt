-- Numbers drawn one after another, and places that are counted in order.
use Rattle.std.proofs.Common.{◌≡◌, ℕ, zero, suc, ◌+◌, Bool, true, false, cond, List, length, ap, ◌∙◌, refl, sym, add-zero, add-one, add-suc}
use Rattle.disk_model.specs.Generator.{next_state, state_after, number_of, drawn}
use Rattle.disk_model.specs.Places.{count_below, count_in_files, count_before}
use Rattle.disk_model.specs.PlainDisk.{file_of, rooms_of}
use Rattle.disk_model.proofs.ReadFiles.{same_room}

-- the state after more draws
pub state_after-state_after : (seed draws more : ℕ) → state_after (state_after seed draws) more ≡ state_after seed (draws + more)
state_after-state_after seed draws zero = ap (state_after seed) (sym (add-zero draws))
state_after-state_after seed draws (suc more) = ap next_state (state_after-state_after seed draws more) ∙ ap (state_after seed) (sym (add-suc draws more))

-- draws from the state that some draws leave
pub drawn-state_after : (seed draws draw : ℕ) → drawn (state_after seed draws) draw ≡ drawn seed (draws + draw)
drawn-state_after seed draws draw = ap (λ state. number_of (next_state state)) (state_after-state_after seed draws draw)

count_below-same : (a b : ℕ → Bool) (n : ℕ) → ((i : ℕ) → a i ≡ b i) → count_below a n ≡ count_below b n
count_below-same a b zero same = refl
count_below-same a b (suc n) same = ap (λ t. count_below a n + cond t 1 0) (same n) ∙ ap (λ count. count + cond (b n) 1 0) (count_below-same a b n same)

count_in_files-same : (a b : ℕ → ℕ → Bool) (files others : List (List ℕ)) (file : ℕ) → rooms_of files ≡ rooms_of others → ((f p : ℕ) → a f p ≡ b f p)
    → count_in_files a files file ≡ count_in_files b others file
count_in_files-same a b files others zero rooms same = refl
count_in_files-same a b files others (suc file) rooms same =
    ap (λ n. count_in_files a files file + count_below (a file) n) (same_room files others file rooms)
    ∙ ap (λ count. count_in_files a files file + count) (count_below-same (a file) (b file) (length (file_of others file)) (same file))
    ∙ ap (λ count. count + count_below (b file) (length (file_of others file))) (count_in_files-same a b files others file rooms same)

-- equal tests count the same places
pub count_before-same : (a b : ℕ → ℕ → Bool) (files others : List (List ℕ)) (file place : ℕ) → rooms_of files ≡ rooms_of others → ((f p : ℕ) → a f p ≡ b f p)
    → count_before a files file place ≡ count_before b others file place
count_before-same a b files others file place rooms same =
    ap (λ count. count + count_below (a file) place) (count_in_files-same a b files others file rooms same)
    ∙ ap (λ count. count_in_files b others file + count) (count_below-same (a file) (b file) place (same file))

count_below_hit : (test : ℕ → Bool) (i : ℕ) → test i ≡ true → count_below test (i + 1) ≡ suc (count_below test i)
count_below_hit test i hit = ap (count_below test) (add-one i) ∙ ap (λ t. count_below test i + cond t 1 0) hit ∙ add-one (count_below test i)

count_below_miss : (test : ℕ → Bool) (i : ℕ) → test i ≡ false → count_below test (i + 1) ≡ count_below test i
count_below_miss test i miss = ap (count_below test) (add-one i) ∙ ap (λ t. count_below test i + cond t 1 0) miss ∙ add-zero (count_below test i)

-- the state after the place i: a draw more where it passes the test
pub state_hit : (test : ℕ → Bool) (seed i state new : ℕ) → test i ≡ true → state ≡ state_after seed (count_below test i) → new ≡ next_state state
    → new ≡ state_after seed (count_below test (i + 1))
state_hit test seed i state new hit is drew = drew ∙ ap next_state is ∙ ap (state_after seed) (sym (count_below_hit test i hit))

pub state_miss : (test : ℕ → Bool) (seed i state : ℕ) → test i ≡ false → state ≡ state_after seed (count_below test i)
    → state ≡ state_after seed (count_below test (i + 1))
state_miss test seed i state miss is = is ∙ ap (state_after seed) (sym (count_below_miss test i miss))
