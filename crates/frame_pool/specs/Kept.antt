-- What holds of the fields of every pool.
use Rattle.std.specs.Prelude.{◌≡◌, ◌*◌, ◌<◌, ◌≤◌, ◌^◌, length}
use Rattle.std.specs.Vec.{vec_capacity}
use Rattle.frame_pool.specs.declared.pool.Pool.TheInside.{Inside}
use Rattle.frame_pool.specs.Spare.{AreSpare}

pub record IsKept (p : Inside) : Type 0 where
  pub bytes_len : length p.bytes.items ≡ 4096 * length p.given.items
  pub few : length p.given.items ≤ p.count
  pub bound : p.count < 2 ^ 32
  -- the memory of all frames was taken
  pub bytes_room : 4096 * p.count ≤ vec_capacity p.bytes
  pub given_room : p.count ≤ vec_capacity p.given
  pub spare_room : p.count ≤ vec_capacity p.spare
  pub spare : AreSpare p.given.items p.spare.items
