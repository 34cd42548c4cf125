-- The key of a state, and what the memory says: how many traces there are below the state of a key. Assumes nothing.
use Rattle.std.specs.Prelude.{ℕ, ◌+◌, ◌*◌, ◌<◌, ◌≤◌, ◌≡◌, List, ◌⊎◌, length, get_or}
use Rattle.cells.specs.Cells.{cell_of}

-- how many words the memory has, how many slots, and how many words a key
abbrev pub word_count : ℕ
word_count = 215040

abbrev pub slot_count : ℕ
slot_count = 5376

abbrev pub key_size : ℕ
key_size = 38

-- a count has two words of 16 bits
abbrev pub count_end : ℕ
count_end = 4294967296

-- an array of eight rows has every variable of a table with n rows
pub record Variables (t : List ℕ) (n : ℕ) (variables : List ℕ) : Type 0 where
  pub size : length variables ≡ 8
  pub all : (x : ℕ) → x < n → get_or t (3 * x) 0 ≡ 6 → (i : ℕ) × (i < 8) × (get_or variables i 0 ≡ x)
  pub low : (i : ℕ) → i < 8 → get_or variables i 0 < 96

-- the name of the variable at place i, in run k from 0
abbrev pub name_of : List ℕ → List ℕ → ℕ → ℕ → ℕ
name_of variables names k i = get_or names (cell_of (get_or variables i 0) (k + 1)) 0

-- The key of a state: how far each run has come, how many moves are left, and the names at the variables' rows in each run. Word 5 is not used.
pub record IsKey (variables done names : List ℕ) (depth : ℕ) (key : List ℕ) : Type 0 where
  pub size : length key ≡ key_size
  pub positions : (k : ℕ) → k < 4 → get_or key k 0 ≡ get_or done k 0
  pub moves : get_or key 4 0 ≡ depth
  pub values : (k i : ℕ) → k < 4 → i < 8 → get_or key (6 + 8 * k + i) 0 ≡ name_of variables names k i

-- two states of one key: the same positions, the same moves left, the same names of variables
pub record Agree (variables done done' names names' : List ℕ) (depth depth' : ℕ) : Type 0 where
  pub positions : (k : ℕ) → k < 4 → get_or done k 0 ≡ get_or done' k 0
  pub moves : depth ≡ depth'
  pub values : (k i : ℕ) → k < 4 → i < 8 → name_of variables names k i ≡ name_of variables names' k i

-- the words of two keys are the same
abbrev pub SameWords : List ℕ → List ℕ → Type 0
SameWords key key' = (j : ℕ) → j < key_size → get_or key j 0 ≡ get_or key' j 0

-- the words of a slot's key are those of a key
abbrev pub HoldsKey : List ℕ → ℕ → List ℕ → Type 0
HoldsKey memory slot key = (j : ℕ) → j < key_size → get_or memory (40 * slot + j) 0 ≡ get_or key j 0

-- the count of a slot, in two halves behind its key
abbrev pub count_at : List ℕ → ℕ → ℕ
count_at memory slot = get_or memory (40 * slot + 38) 0 + 65536 * get_or memory (40 * slot + 39) 0

-- The memory has a slot of the key with the count. A slot with the count 0 is empty.
pub record Says (memory key : List ℕ) (count : ℕ) : Type 0 where
  pub slot : ℕ
  pub inside : slot < slot_count
  pub same : HoldsKey memory slot key
  pub counted : count_at memory slot ≡ count
  pub some : 0 < count

-- what is found of a key: nothing, which is 0, or the count of its slot
pub record LookedUp (memory key : List ℕ) (r : ℕ) : Type 0 where
  pub fits : r < count_end
  pub says : 0 < r → Says memory key r

-- an entry is stored: the memory says nothing that it did not say before but the entry
pub record Stored (before after key : List ℕ) (count : ℕ) : Type 0 where
  pub size : length after ≡ length before
  pub says : (k : List ℕ) (c : ℕ) → Says after k c → Says before k c ⊎ (SameWords k key × (c ≡ count))

-- a count is stored, or where it is 0 nothing is
pub record Kept (before after key : List ℕ) (count : ℕ) : Type 0 where
  pub nothing : count ≡ 0 → after ≡ before
  pub stored : 0 < count → Stored before after key count

-- So many words from a place on are written, and no other word is.
pub record Written (before after : List ℕ) (at count : ℕ) (word : ℕ → ℕ) : Type 0 where
  pub size : length after ≡ length before
  pub inside : (i : ℕ) → i < count → get_or after (at + i) 0 ≡ word i
  pub below : (j : ℕ) → j < at → get_or after j 0 ≡ get_or before j 0
  pub behind : (j : ℕ) → at + count ≤ j → get_or after j 0 ≡ get_or before j 0
