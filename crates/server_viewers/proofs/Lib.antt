mod Stating
