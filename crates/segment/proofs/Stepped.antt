-- A step of the register, once its client and its node are known to be there or not.
use Rattle.std.proofs.Common.{◌≡◌, ℕ, true, false, ltb}
use Rattle.code.specs.Meaning.{Meaning}
use Rattle.register.specs.Nodes.{Bytes}
use Rattle.register.specs.Machine.{Segment, Call, sign_on, sign_off, begin_write, begin_read, take, fetch, Step, refused, turned, visited, on_turn, off_turn, write_turn, read_turn, fetch_turn, visit, step}
use Rattle.register.specs.Progress.{caller}

-- a refused step
abbrev pub refuses : ℕ → Segment → Step
refuses e σ = record { outcome = refused e; after = σ }

module _ (m : Meaning) (σ : Segment) where
  -- a client that is not laid out is refused by 8, whatever the call
  pub no_client : (x : Call) → ltb (caller x) σ.clients ≡ false → step m x σ ≡ refuses 8 σ
  unfolding step
  no_client (sign_on c) h = rw h
  no_client (sign_off c) h = rw h
  no_client (begin_write c r) h = rw h
  no_client (begin_read c allowed) h = rw h
  no_client (take c i) h = rw h
  no_client (fetch c i) h = rw h

  module _ (c : ℕ) (laid : ltb c σ.clients ≡ true) where
    pub on_step : step m (sign_on c) σ ≡ turned σ c (on_turn (σ.client c) (σ.mail c))
    unfolding step
    on_step = rw laid

    pub off_step : step m (sign_off c) σ ≡ turned σ c (off_turn (σ.client c) (σ.mail c))
    unfolding step
    off_step = rw laid

    pub write_step : (r : Bytes) → step m (begin_write c r) σ ≡ turned σ c (write_turn m r (σ.client c) (σ.mail c))
    unfolding step
    write_step r = rw laid

    pub read_step : (allowed : ℕ) → step m (begin_read c allowed) σ ≡ turned σ c (read_turn m allowed (σ.client c) (σ.mail c))
    unfolding step
    read_step allowed = rw laid

    module _ (i : ℕ) where
      -- a node that is not in the segment is refused by 9
      pub no_node_take : ltb i m.n ≡ false → step m (take c i) σ ≡ refuses 9 σ
      unfolding step
      no_node_take h = rw (laid, h)

      pub no_node_fetch : ltb i m.n ≡ false → step m (fetch c i) σ ≡ refuses 9 σ
      unfolding step
      no_node_fetch h = rw (laid, h)

      pub take_step : ltb i m.n ≡ true → step m (take c i) σ ≡ visited σ c i (visit m i (σ.node i) (σ.mail c i))
      unfolding step
      take_step h = rw (laid, h)

      pub fetch_step : ltb i m.n ≡ true → step m (fetch c i) σ ≡ turned σ c (fetch_turn m c i (σ.client c) (σ.mail c))
      unfolding step
      fetch_step h = rw (laid, h)
