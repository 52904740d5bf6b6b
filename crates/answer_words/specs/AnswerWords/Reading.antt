-- What is read of a state, read off its words.
use Rattle.std.specs.Prelude.{◌≡◌, refl, ℕ, true, false, List, get_or, replicate}
use Rattle.std.specs.Float.Ieee.{of_bits, to_bits}
use Rattle.state_words.specs.StateWords.{is_state, state_from, signals_in, vector_in, state_in}
use Rattle.state_words.specs.StateWords.Kept.{kept}
use Rattle.answer_words.specs.AnswerWords.{reading_words, reading_in, mode_or}

pub reading_of : (ws : List ℕ) → is_state ws ≡ true → reading_words (state_in ws) ≡ reading_in ws
unfolding reading_words reading_in state_in state_from signals_in vector_in
reading_of ws e = let k = kept ws e in rw (e, k.mode, k.flag, k.level, k.streak)

pub reading_of_none : (ws : List ℕ) → is_state ws ≡ false → reading_words (state_in ws) ≡ replicate {A = ℕ} 8 0
unfolding reading_words state_in to_bits of_bits
reading_of_none ws e = rw e refl

pub mode_of : (ws : List ℕ) (old : ℕ) → is_state ws ≡ true → mode_or ws old ≡ get_or ws 1 0
unfolding mode_or state_in state_from
mode_of ws old e = rw (e, (kept ws e).mode)
