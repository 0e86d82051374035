mod Downs
