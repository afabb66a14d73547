-- What a request's head wishes.
use Rattle.std.specs.Prelude.{◌≡◌}
use Rattle.httparse.specs.Grammar.{RequestHead}
use Rattle.txid_proxy.specs.declared.wish.Wish.{Wish}
use Rattle.txid_proxy.specs.Cookies.{IsFloor}
use Rattle.txid_proxy.specs.Passing.{is_read}

pub record IsWish (head : RequestHead) (wish : Wish) : Type 0 where
  pub minor : wish.minor ≡ head.minor
  pub reads : wish.reads ≡ is_read head.method
  pub floor : IsFloor head.fields wish.floor
