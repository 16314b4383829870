-- Numbers that are drawn one after another, each from a state of 64 bits. The seed is the first
-- state.
use Rattle.std.specs.Prelude.{ℕ, ◌+◌, ◌*◌, ◌/◌, ◌%◌, ◌^◌, zero, suc}

-- the state after one draw more
unfoldable pub next_state : ℕ → ℕ
next_state state = (state * 6364136223846793005 + 1442695040888963407) % 2 ^ 64

-- the state after this many draws from the seed
abbrev pub state_after : ℕ → ℕ → ℕ
state_after seed zero = seed
state_after seed (suc draws) = next_state (state_after seed draws)

-- what a draw gives that leaves this state: its upper 31 bits
unfoldable pub number_of : ℕ → ℕ
number_of state = state / 2 ^ 33

-- what the draw of this number gives; the first has the number 0
abbrev pub drawn : ℕ → ℕ → ℕ
drawn seed draw = number_of (next_state (state_after seed draw))
