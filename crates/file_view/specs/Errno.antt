-- The error numbers of Linux that a rule answers with (errno(3)).
use Rattle.lf_base.specs.declared.errno.Errno.{Errno}

abbrev pub EPERM : Errno
EPERM = record { 0 = 1 }

abbrev pub ENOENT : Errno
ENOENT = record { 0 = 2 }

abbrev pub EIO : Errno
EIO = record { 0 = 5 }

abbrev pub EBADF : Errno
EBADF = record { 0 = 9 }

abbrev pub EAGAIN : Errno
EAGAIN = record { 0 = 11 }

abbrev pub EACCES : Errno
EACCES = record { 0 = 13 }

abbrev pub EINVAL : Errno
EINVAL = record { 0 = 22 }

abbrev pub ENFILE : Errno
ENFILE = record { 0 = 23 }

abbrev pub EFBIG : Errno
EFBIG = record { 0 = 27 }

abbrev pub ENOSPC : Errno
ENOSPC = record { 0 = 28 }

abbrev pub EROFS : Errno
EROFS = record { 0 = 30 }

abbrev pub ENOLCK : Errno
ENOLCK = record { 0 = 37 }
